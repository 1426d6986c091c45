use Rattle.std.proofs.Common.{◌≡◌, ℕ, ◌+◌, [], length}
use Rattle.std.specs.Vec.Iter.{into_iter_items}
use Rattle.locked_services.specs.Opening.{AreNamedFrom, AreUnused}
use Rattle.locked_services.specs.Submissions.{AreNumbered, taken_from}
use Rattle.locked_services.proofs.opening.seat_ends.Given as goal

abbrev pub invariant-loop-ring : goal.invariant-loop-ring
invariant-loop-ring g l =
    AreNamedFrom (length l.ends.drains.items) g.C.Channels.seat_ring (into_iter_items l.ring-iterator) × AreNumbered l.ends.drains.items
    × ((a : ℕ) → taken_from a l.ends.drains.items ≡ []) × AreUnused l.ends.seats.items
    × (length l.ends.seats.items ≡ length l.ends.drains.items)
    × (length l.ends.drains.items + length (into_iter_items l.ring-iterator) ≡ length l.fn.rings.items)
