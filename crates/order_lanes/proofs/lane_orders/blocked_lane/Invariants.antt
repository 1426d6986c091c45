use Rattle.std.proofs.Common.{◌≡◌, ℕ, length}
use Rattle.order_lanes.specs.Lane.{sent_in, HaveRoomBelow}
use Rattle.order_lanes.proofs.lane_orders.blocked_lane.Given as goal

abbrev pub invariant-loop-k : goal.invariant-loop-k
invariant-loop-k g l = (length l.lanes.items ≡ length l.initial.lanes.items) × ((k : ℕ) → sent_in k l.lanes.items ≡ sent_in k l.initial.lanes.items)
    × HaveRoomBelow l.k l.places l.lanes.items
