use Rattle.std.proofs.Common.{◌≡◌, length}
use Rattle.order_lanes.specs.Lane.{AreNumbered}
use Rattle.order_lanes.proofs.ring.open_lane_rings.Given as goal

-- there is a ring for each number so far
abbrev pub invariant-loop-number : goal.invariant-loop-number
invariant-loop-number l = (length l.rings.items ≡ l.number) × AreNumbered l.rings.items
