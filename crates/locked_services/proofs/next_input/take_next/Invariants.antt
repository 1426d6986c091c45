use Rattle.std.proofs.Common.{◌≡◌, ℕ, length, None}
use Rattle.locked_services.specs.Submissions.{AreNumbered, NoneSeenBelow, taken_from}
use Rattle.locked_services.proofs.next_input.take_next.Given as goal

abbrev pub invariant-loop-k : goal.invariant-loop-k
invariant-loop-k g l =
    (length l.drains.items ≡ length l.initial.drains.items) × AreNumbered l.drains.items
    × ((a : ℕ) → taken_from a l.drains.items ≡ taken_from a l.initial.drains.items) × NoneSeenBelow l.k l.drains.items
    × (l.held ≡ None)
