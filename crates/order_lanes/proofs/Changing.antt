-- Lanes of which one changes.
use Rattle.std.proofs.Common.{◌≡◌, ◌≢◌, ◌≤◌, ◌<◌, ◌+◌, ◌==◌, ℕ, ⊎_elim, Bool, true, false, List, [], ◌∷◌, ◌++◌, length, take, get_or}
use Rattle.std.proofs.Common.{if◌then◌else◌, Option, Some, slice_get, slice_set, refl, ap, sym, subst, ◌∙◌, arith}
use Rattle.std.proofs.lemmas.Bool.Decides.{nat_tests}
use Rattle.std.proofs.lemmas.List.{append-nil, take_more}
use Rattle.std.proofs.lemmas.List.Elements.{filter-append}
use Rattle.s6_events.specs.declared.order.Order.{Order}
use Rattle.order_lanes.specs.Lane.{LaneView, sent_of, sent_in, HaveRoomBelow, HaveRoom}
use Rattle.order_lanes.specs.LaneOrders.{lane_of, orders_of_lane}
use Rattle.channel_names.proofs.Places.{read_set, set_here, set_there, told_set}

-- a look at one lane keeps what was sent into each
pub sent_set : (lanes : List LaneView) (k : ℕ) (p q : LaneView) → slice_get lanes k ≡ Some p → q.sent ≡ p.sent → (j : ℕ)
    → sent_in j (slice_set lanes k q) ≡ sent_in j lanes
sent_set lanes k p q here same j = told_set sent_of lanes k p q here same j

-- the lanes before it keep their room
pub room_before : (lanes : List LaneView) (k places : ℕ) (q : LaneView) → HaveRoomBelow k places lanes
    → HaveRoomBelow k places (slice_set lanes k q)
room_before lanes k places q room j l below at =
    ⊎_elim (λ t. let e = t.0 in absurd (omega arith)) (λ t. room j l below t.1) (read_set lanes k j q l at)

-- where it has room itself, one lane more has room
pub room_below : (lanes : List LaneView) (k places : ℕ) (q : LaneView) → HaveRoomBelow k places lanes → places ≤ q.free
    → HaveRoomBelow (k + 1) places (slice_set lanes k q)
room_below lanes k places q room enough j l below at =
    ⊎_elim (λ t. subst (λ (x : LaneView). places ≤ x.free) t.1 enough)
    (λ t. let n = t.0 in room j l (omega arith) t.1)
    (read_set lanes k j q l at)

sent_more_at : (lanes : List LaneView) (at : ℕ) (o : Order) (p q : LaneView) → slice_get lanes at ≡ Some p → q.sent ≡ p.sent ++ o ∷ []
    → (k : ℕ) (b : Bool) → (at == k) ≡ b
    → sent_in k (slice_set lanes at q) ≡ sent_in k lanes ++ (if b then o ∷ [] else [])
sent_more_at lanes at o p q here sent k true is =
    let e : at ≡ k = grind (arith, nat_tests) in
    subst (λ (n : ℕ). sent_in n (slice_set lanes at q) ≡ sent_in n lanes ++ o ∷ []) e
    (ap sent_of (set_here lanes at p q here) ∙ (sent ∙ ap (λ (l : Option LaneView). sent_of l ++ o ∷ []) (sym here)))
sent_more_at lanes at o p q here sent k false is =
    let ne : k ≢ at = λ e. grind (arith, nat_tests) in
    ap sent_of (set_there lanes at k q ne) ∙ sym (append-nil (sent_in k lanes))

-- an order more in its lane
pub sent_more : (lanes : List LaneView) (at count : ℕ) (o : Order) (p q : LaneView) → at ≡ lane_of count o → slice_get lanes at ≡ Some p
    → q.sent ≡ p.sent ++ o ∷ [] → (k : ℕ)
    → sent_in k (slice_set lanes at q) ≡ sent_in k lanes ++ orders_of_lane count k (o ∷ [])
sent_more lanes at count o p q is here sent k =
    subst (λ (n : ℕ). sent_in k (slice_set lanes at q) ≡ sent_in k lanes ++ (if n == k then o ∷ [] else [])) is
    (sent_more_at lanes at o p q here sent k (at == k) refl)

-- and a place less there
pub room_less : (lanes : List LaneView) (at : ℕ) (p q : LaneView) → slice_get lanes at ≡ Some p → p.free ≡ q.free + 1 → (n : ℕ)
    → HaveRoom (n + 1) lanes → HaveRoom n (slice_set lanes at q)
room_less lanes at p q here free n room k l is =
    ⊎_elim (λ t. let r = room at p here in subst (λ (x : LaneView). n ≤ x.free) t.1 (omega arith))
    (λ t. let r = room k l t.1 in omega arith)
    (read_set lanes at k q l is)

-- a lane's part of one order more
pub orders_more : (count k i : ℕ) (o : Order) (os : List Order) → i < length os → o ≡ get_or os i o
    → orders_of_lane count k (take (i + 1) os) ≡ orders_of_lane count k (take i os) ++ orders_of_lane count k (o ∷ [])
orders_more count k i o os below is =
    ap (orders_of_lane count k) (take_more os i o below ∙ ap (λ (x : Order). take i os ++ x ∷ []) (sym is))
    ∙ filter-append (λ x. lane_of count x == k) (take i os) (o ∷ [])
