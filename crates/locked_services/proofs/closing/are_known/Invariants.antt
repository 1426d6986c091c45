use Rattle.std.proofs.Common.{◌≡◌, ◌<◌, ℕ, Some, slice_get}
use Rattle.inbox.specs.Ends.{FinishedView}
use Rattle.locked_services.proofs.closing.are_known.Given as goal

abbrev pub invariant-loop-k : goal.invariant-loop-k
invariant-loop-k g l = (j : ℕ) (f : FinishedView) → j < l.k → slice_get l.finishes.items j ≡ Some f → f.actor < l.seats
