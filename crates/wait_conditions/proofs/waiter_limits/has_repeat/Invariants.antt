use Rattle.std.proofs.Common.{◌≡◌, drop}
use Rattle.wait_conditions.specs.Refusal.{repeats_serial}
use Rattle.wait_conditions.proofs.waiter_limits.has_repeat.Given as goal

abbrev pub invariant-loop-i : goal.invariant-loop-i
invariant-loop-i l = repeats_serial l.sids ≡ repeats_serial (drop l.i l.sids)
