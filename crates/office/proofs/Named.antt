-- What a run names.
use Rattle.std.proofs.Common.{◌≡◌, ℕ, ◌+◌, List, Some, slice_get, sym, ap, ◌∙◌, arith}
use Rattle.channel_names.specs.RingName.{RingName}
use Rattle.inbox.specs.Ends.{RingView}
use Rattle.order_lanes.specs.Lane.{LaneRingView}
use Rattle.order_lanes.specs.Lane.{AreNumbered as AreLanesNumbered}
use Rattle.s6_events.specs.declared.order.Order.{Order}
use Rattle.locked_services.specs.Opening.{AreNamed}
use Rattle.office.specs.Names.{ring_of, lane_ring_of, asked_of}
use Rattle.office.specs.Opening.{AreLaneRings, AreAsked}

-- each actor's ring has its name
pub named_rings : (names : ℕ → RingName) (rings : List RingView) → ((k : ℕ) (r : RingView) → slice_get rings k ≡ Some r → r.actor ≡ k)
    → ((k : ℕ) → names k ≡ ring_of (slice_get rings k)) → AreNamed names rings
named_rings names rings ordered named k r at =
    let e : r.actor ≡ k = ordered k r at in
    let place : r.actor ≡ 0 + k = omega arith in
    (place, sym (ap names e ∙ (named k ∙ ap ring_of at)))

-- each lane's ring has its name
pub named_lanes : (names : ℕ → RingName) (rings : List LaneRingView) → AreLanesNumbered rings
    → ((k : ℕ) → names k ≡ lane_ring_of (slice_get rings k)) → AreLaneRings names 0 rings
named_lanes names rings numbered named k r at =
    let e : r.number ≡ k = numbered k r at in
    let place : r.number ≡ 0 + k = omega arith in
    (place, sym (ap names e ∙ (named k ∙ ap lane_ring_of at)))

-- each backend was asked what the run says
pub named_before : {B : Type 0} (asked : B → List Order) (before : ℕ → List Order) (backends : List B)
    → ((k : ℕ) → before k ≡ asked_of asked (slice_get backends k)) → AreAsked asked before 0 backends
named_before {B} asked before backends named k b at =
    let e : 0 + k ≡ k = omega arith in
    sym (ap before e ∙ (named k ∙ ap (asked_of asked) at))
