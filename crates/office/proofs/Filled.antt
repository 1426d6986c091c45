-- Lanes that are filled one after the other.
use Rattle.std.proofs.Common.{◌≡◌, ℕ, zero, suc, ◌+◌, ◌<◌, List, [], ◌∷◌, ◌++◌, Some, drop, take, length, slice_get, refl, ap, subst, ◌∙◌, arith}
use Rattle.channel_names.specs.RingName.{RingName}
use Rattle.order_lanes.specs.Lane.{LaneRingView, LaneView, sent_in}
use Rattle.s6_events.specs.declared.order.Order.{Order}
use Rattle.office.specs.Opening.{AreLaneRings, AreAsked}

-- the rings after the first
pub rings_rest : (names : ℕ → RingName) (n : ℕ) (r : LaneRingView) (rest : List LaneRingView) → AreLaneRings names n (r ∷ rest)
    → AreLaneRings names (n + 1) rest
rings_rest names n r rest each k x at =
    let t = each (suc k) x at in
    let e : x.number ≡ n + suc k = t.0 in
    (omega arith, t.1)

-- the backends after the first
pub asked_rest : {B : Type 0} (asked : B → List Order) (before : ℕ → List Order) (n : ℕ) (b : B) (rest : List B)
    → AreAsked asked before n (b ∷ rest) → AreAsked asked before (n + 1) rest
asked_rest {B} asked before n b rest each k x at =
    let e : n + suc k ≡ n + 1 + k = omega arith in
    each (suc k) x at ∙ ap before e

pub unsent_snoc : (lanes : List LaneView) (l : LaneView) → l.sent ≡ [] → (k : ℕ) → sent_in k lanes ≡ [] → sent_in k (lanes ++ l ∷ []) ≡ []
unsent_snoc [] l none zero unsent = none
unsent_snoc [] l none (suc k) unsent = refl
unsent_snoc (x ∷ xs) l none zero unsent = unsent
unsent_snoc (x ∷ xs) l none (suc k) unsent = unsent_snoc xs l none k unsent

-- the backends without the first
pub asked_removed : {B : Type 0} (asked : B → List Order) (before : ℕ → List Order) (n : ℕ) (backends left : List B)
    → left ≡ take 0 backends ++ drop (0 + 1) backends → AreAsked asked before n backends → AreAsked asked before (n + 1) left
asked_removed {B} asked before n [] left e each k b at = absurd (cc (subst (λ (bs : List B). slice_get bs k ≡ Some b) e at))
asked_removed {B} asked before n (x ∷ xs) left e each k b at =
    asked_rest asked before n x xs each k b (subst (λ (bs : List B). slice_get bs k ≡ Some b) e at)

pub removed_length : {B : Type 0} (backends left : List B) → left ≡ take 0 backends ++ drop (0 + 1) backends → 0 < length backends
    → length left + 1 ≡ length backends
removed_length {B} [] left e some = absurd (omega arith)
removed_length {B} (x ∷ xs) left e some = let n : length left ≡ length xs = ap length e in omega arith
