use Rattle.std.proofs.Common.{◌≡◌, take}
use Rattle.deadlines.specs.Timers.{due_by}
use Rattle.deadlines.proofs.deadlines.add_due.Given as goal

abbrev pub invariant-loop-timer : goal.invariant-loop-timer
invariant-loop-timer g l = l.sids.items ≡ due_by l.now (take l.timer-index l.timers)
