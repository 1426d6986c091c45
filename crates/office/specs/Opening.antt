-- What holds of the parts of an office when it is opened.
use Rattle.std.specs.Prelude.{◌≡◌, ℕ, ◌+◌, List, [], length, slice_get, Some}
use Rattle.channel_names.specs.RingName.{RingName}
use Rattle.inbox.specs.Ends.{DrainView, SeatView}
use Rattle.locked_services.specs.Opening.{AreUnused}
use Rattle.locked_services.specs.Submissions.{AreNumbered, taken_from}
use Rattle.order_lanes.specs.Lane.{LaneRingView}
use Rattle.s6_events.specs.declared.order.Order.{Order}
use Rattle.status_board.specs.declared.shot.Shot.{Shot}

-- the seats of this many actors, at which nothing was submitted
abbrev pub AreNewSeats : ℕ → List SeatView → Type 0
AreNewSeats count seats = AreUnused seats × (length seats ≡ count)

-- each drain is at its actor's place, and nothing was taken from it
abbrev pub AreUntaken : List DrainView → Type 0
AreUntaken drains = AreNumbered drains × ((actor : ℕ) → taken_from actor drains ≡ [])

-- each reader knows just what was published so far
abbrev pub AreReaders : List Shot → List (List Shot) → Type 0
AreReaders published readers = (k : ℕ) (known : List Shot) → slice_get readers k ≡ Some known → known ≡ published

-- the rings are those of the lanes from number n on, in order, and each has the name of its lane's ring
abbrev pub AreLaneRings : (ℕ → RingName) → ℕ → List LaneRingView → Type 0
AreLaneRings names n rings = (k : ℕ) (r : LaneRingView) → slice_get rings k ≡ Some r → (r.number ≡ n + k) × (r.ring ≡ names r.number)

-- the backends are those of the lanes from number n on, in order, and each was asked just what `before` gives for its lane
abbrev pub AreAsked : {B : Type 0} → (B → List Order) → (ℕ → List Order) → ℕ → List B → Type 0
AreAsked {B} asked before n backends = (k : ℕ) (b : B) → slice_get backends k ≡ Some b → asked b ≡ before (n + k)
