-- The names that a run gives to the rings of a new office.
use Rattle.std.specs.Prelude.{List, [], Option, Some, None}
use Rattle.channel_names.specs.RingName.{RingName}
use Rattle.channel_names.specs.Unnamed.{no_ring}
use Rattle.inbox.specs.Ends.{RingView}
use Rattle.order_lanes.specs.Lane.{LaneRingView}
use Rattle.s6_events.specs.declared.order.Order.{Order}

-- the name of a ring, where there is one
abbrev pub ring_of : Option RingView → RingName
ring_of None = no_ring
ring_of (Some ring) = ring.ring

-- the name of a lane's ring, where there is one
abbrev pub lane_ring_of : Option LaneRingView → RingName
lane_ring_of None = no_ring
lane_ring_of (Some ring) = ring.ring

-- what a backend was asked, where there is one
abbrev pub asked_of : {B : Type 0} → (B → List Order) → Option B → List Order
asked_of asked None = []
asked_of asked (Some backend) = asked backend
