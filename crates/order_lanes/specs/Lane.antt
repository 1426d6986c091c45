-- What a contract sees of a lane's ring, and of the tree's end of it.
use Rattle.std.specs.Prelude.{◌≡◌, ℕ, ◌≤◌, ◌<◌, List, [], slice_get, Option, Some, None}
use Rattle.channel_names.specs.RingName.{RingName}
use Rattle.s6_events.specs.declared.order.Order.{Order}

-- how many orders a lane's ring holds
abbrev pub lane_room : ℕ
lane_room = 4096

-- the number of its lane, and the name of the ring
pub record LaneRingView : Type 0 where
  pub number : ℕ
  pub ring : RingName

-- each ring is that of the lane whose number is its place
abbrev pub AreNumbered : List LaneRingView → Type 0
AreNumbered rings = (k : ℕ) (r : LaneRingView) → slice_get rings k ≡ Some r → r.number ≡ k

-- the lane's number, all that was ever sent into it, oldest first, and how many places are known to be free
pub record LaneView : Type 0 where
  pub number : ℕ
  pub sent : List Order
  pub free : ℕ

abbrev pub sent_of : Option LaneView → List Order
sent_of None = []
sent_of (Some lane) = lane.sent

-- what was sent into the lane at this place
abbrev pub sent_in : ℕ → List LaneView → List Order
sent_in k lanes = sent_of (slice_get lanes k)

-- each lane has at least `places` free places
abbrev pub HaveRoom : ℕ → List LaneView → Type 0
HaveRoom places lanes = (k : ℕ) (lane : LaneView) → slice_get lanes k ≡ Some lane → places ≤ lane.free

-- each lane with a number below n has at least `places` free places
abbrev pub HaveRoomBelow : ℕ → ℕ → List LaneView → Type 0
HaveRoomBelow n places lanes = (k : ℕ) (lane : LaneView) → k < n → slice_get lanes k ≡ Some lane → places ≤ lane.free

-- lane k is the least one with fewer than `places` free places
pub record IsBlocked (places k : ℕ) (lanes : List LaneView) : Type 0 where
  pub lane : LaneView
  pub there : slice_get lanes k ≡ Some lane
  pub few : lane.free < places
  pub least : HaveRoomBelow k places lanes
