use Rattle.std.proofs.Common.{◌≡◌, ◌<◌, ℕ}
use Rattle.locked_services.specs.Closing.{finishes_of}
use Rattle.locked_services.proofs.closing.has_one_each.Given as goal

abbrev pub invariant-loop-actor : goal.invariant-loop-actor
invariant-loop-actor g l = (j : ℕ) → j < l.actor → finishes_of j l.finishes.items ≡ 1
