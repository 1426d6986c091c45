use Rattle.std.proofs.Common.{◌≡◌, ◌≤◌, ℕ, ◌+◌, [], length, vec_capacity}
use Rattle.std.specs.Vec.Iter.{into_iter_items}
use Rattle.order_lanes.specs.Lane.{sent_in}
use Rattle.office.specs.Opening.{AreLaneRings, AreAsked}
use Rattle.office.proofs.lane_ends.LaneEnds.fill.Given as goal

abbrev pub invariant-loop-ring : goal.invariant-loop-ring
invariant-loop-ring g l =
    AreLaneRings g.L.Lanes.lane_ring (length l.ends.lanes.items) (into_iter_items l.ring-iterator)
    × AreAsked g.B.Backend.asked g.L.Lanes.asked_before (length l.ends.lanes.items) l.backends.items
    × (length l.backends.items ≡ length (into_iter_items l.ring-iterator))
    × ((k : ℕ) → sent_in k l.ends.lanes.items ≡ [])
    × (length l.ends.desks.items ≡ length l.ends.lanes.items)
    × (length l.ends.lanes.items + length (into_iter_items l.ring-iterator) ≡ length l.fn.rings.items)
    × (length l.fn.rings.items ≤ vec_capacity l.ends.lanes) × (length l.fn.rings.items ≤ vec_capacity l.ends.desks)
