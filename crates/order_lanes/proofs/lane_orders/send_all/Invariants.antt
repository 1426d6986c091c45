use Rattle.std.proofs.Common.{◌≡◌, ◌<◌, ◌-◌, ◌++◌, ℕ, length, take}
use Rattle.order_lanes.specs.Lane.{sent_in, HaveRoom}
use Rattle.order_lanes.specs.LaneOrders.{orders_of_lane}
use Rattle.order_lanes.proofs.lane_orders.send_all.Given as goal

abbrev pub invariant-loop-order : goal.invariant-loop-order
invariant-loop-order g l = (length l.lanes.items ≡ length l.initial.lanes.items) × (l.count ≡ length l.initial.lanes.items)
    × ((k : ℕ) → k < l.count → sent_in k l.lanes.items ≡ sent_in k l.initial.lanes.items ++ orders_of_lane l.count k (take l.order-index l.orders))
    × HaveRoom (length l.orders - l.order-index) l.lanes.items
