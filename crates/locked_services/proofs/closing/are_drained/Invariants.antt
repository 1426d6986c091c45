use Rattle.std.proofs.Common.{◌≡◌, ◌<◌, ℕ, Some, true, false, IsSome, slice_get}
use Rattle.inbox.specs.Ends.{FinishedView}
use Rattle.locked_services.specs.Closing.{AreSameDrains, IsInputLeft}
use Rattle.locked_services.specs.Submissions.{AreNumbered, taken_from}
use Rattle.locked_services.proofs.closing.are_drained.Given as goal

abbrev pub invariant-loop-k : goal.invariant-loop-k
invariant-loop-k g l =
    AreSameDrains l.initial.drains.items l.drains.items × AreNumbered l.drains.items × (l.finishes.items ≡ l.initial.finishes.items)
    × ((j : ℕ) (f : FinishedView) → j < l.k → slice_get l.initial.finishes.items j ≡ Some f → IsSome f.submitted)
    × (l.all ≡ true → (j : ℕ) (f : FinishedView) → j < l.k → slice_get l.initial.finishes.items j ≡ Some f
    → f.submitted ≡ Some (taken_from f.actor l.initial.drains.items))
    × (l.all ≡ false → IsInputLeft l.initial.drains.items l.initial.finishes.items)
