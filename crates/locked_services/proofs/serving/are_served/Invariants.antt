use Rattle.std.proofs.Common.{◌≡◌, ◌<◌, ℕ, Some, slice_get, vec_capacity}
use Rattle.order_lanes.specs.Desk.{DeskView}
use Rattle.order_lanes.specs.Lane.{LaneView}
use Rattle.locked_services.specs.Closing.{AreSameDesks, AreSameLanes, IsServed}
use Rattle.locked_services.proofs.serving.are_served.Given as goal

abbrev pub invariant-loop-k : goal.invariant-loop-k
invariant-loop-k g l =
    AreSameLanes l.initial.lanes.items l.lanes.items × AreSameDesks l.initial.desks.items l.desks.items
    × (vec_capacity l.desks ≡ vec_capacity l.initial.desks)
    × ((j : ℕ) (a : LaneView) (b : DeskView) → j < l.k → slice_get l.initial.lanes.items j ≡ Some a → slice_get l.initial.desks.items j ≡ Some b
    → IsServed g.L.Lanes.asked_before j (Some a) (Some b))
