-- Lanes and desks, one after the other.
use Rattle.std.proofs.Common.{◌≡◌, ◌<◌, ◌+◌, ◌++◌, ℕ, zero, suc, List, [], ◌∷◌, map, length, option_map, Option, Some, None, slice_get, refl, ap, sym, subst, ◌∙◌, arith}
use Rattle.std.proofs.lemmas.List.{length-map}
use Rattle.std.proofs.lemmas.Option.{slice_get-map, slice_get_within}
use Rattle.s6_events.specs.declared.order.Order.{Order}
use Rattle.order_lanes.specs.Desk.{DeskView}
use Rattle.order_lanes.specs.Lane.{LaneView, sent_in, sent_of}
use Rattle.order_lanes.specs.LaneOrders.{orders_of_lane}
use Rattle.run_records.specs.Runs.{RunStep}
use Rattle.locked_services.specs.Closing.{lane_unseen, desk_unseen, AreSameDesks, IsServed, AreServed, AreCarriedOut}
use Rattle.locked_services.specs.Running.{orders_of}

-- two lists of one length, of which each pair is served
pub served_all : (before : ℕ → List Order) (n : ℕ) (lanes : List LaneView) (desks : List DeskView) → length lanes ≡ length desks
    → ((k : ℕ) (l : LaneView) (d : DeskView) → slice_get lanes k ≡ Some l → slice_get desks k ≡ Some d → IsServed before (n + k) (Some l) (Some d))
    → (k : ℕ) → IsServed before (n + k) (slice_get lanes k) (slice_get desks k)
served_all before n [] [] same each k = tt
served_all before n [] (d ∷ ds) same each k = absurd (omega arith)
served_all before n (l ∷ ls) [] same each k = absurd (omega arith)
served_all before n (l ∷ ls) (d ∷ ds) same each zero = each zero l d refl refl
served_all before n (l ∷ ls) (d ∷ ds) same each (suc k) =
    let e : n + suc k ≡ n + 1 + k = omega arith in
    let rest = served_all before (n + 1) ls ds (omega arith) (λ j x y a b. let f : n + suc j ≡ n + 1 + j = omega arith in
    subst (λ (i : ℕ). IsServed before i (Some x) (Some y)) f (each (suc j) x y a b)) k in
    subst (λ (i : ℕ). IsServed before i (slice_get ls k) (slice_get ds k)) (sym e) rest

-- one list is longer
pub order_left : (before : ℕ → List Order) (n : ℕ) (lanes : List LaneView) (desks : List DeskView) → (length lanes ≡ length desks → ⊥)
    → (k : ℕ) × (IsServed before (n + k) (slice_get lanes k) (slice_get desks k) → ⊥)
order_left before n [] [] differ = absurd (differ refl)
order_left before n [] (d ∷ ds) differ = (0, λ served. served)
order_left before n (l ∷ ls) [] differ = (0, λ served. served)
order_left before n (l ∷ ls) (d ∷ ds) differ =
    let t = order_left before (n + 1) ls ds (λ same. differ (omega (same, arith))) in
    let e : n + suc t.0 ≡ n + 1 + t.0 = omega arith in
    (suc t.0, λ served. t.1 (subst (λ (i : ℕ). IsServed before i (slice_get ls t.0) (slice_get ds t.0)) e served))

-- a lane and a desk that look the same
pub served_same : (before : ℕ → List Order) (k : ℕ) (a b : LaneView) (c d : DeskView) → lane_unseen a ≡ lane_unseen b → desk_unseen c ≡ desk_unseen d
    → IsServed before k (Some a) (Some c) → IsServed before k (Some b) (Some d)
served_same before k a b c d lane desk served = (
  sym (ap (λ (x : LaneView). x.number) lane) ∙ served.0,
  sym (ap (λ (x : DeskView). x.lane) desk) ∙ served.1,
  sym (ap (λ (x : DeskView). x.asked) desk) ∙ (served.2 ∙ ap (λ (x : LaneView). before k ++ x.sent) lane),
)

there : {B C : Type 0} (g : B → C) (o : Option B) (z : C) → Some z ≡ option_map g o → (y : B) × (o ≡ Some y) × (z ≡ g y)
there g None z e = absurd (cc (e))
there g (Some y) z e = (y, refl, cc (e))

-- the one at a place of the other list
backed : {A B C : Type 0} (f : A → C) (g : B → C) (xs : List A) (ys : List B) → map f xs ≡ map g ys → (k : ℕ) (x : A) → slice_get xs k ≡ Some x
    → (y : B) × (slice_get ys k ≡ Some y) × (f x ≡ g y)
backed {A} {B} {C} f g xs ys same k x at =
    there g (slice_get ys k) (f x)
    (ap (option_map f) (sym at) ∙ (sym (slice_get-map f xs k) ∙ (ap (λ (zs : List C). slice_get zs k) same ∙ slice_get-map g ys k)))

-- what a desk that is served was asked
asked_sent : (before : ℕ → List Order) (k : ℕ) (o : Option LaneView) (d : DeskView) → IsServed before k o (Some d) → d.asked ≡ before k ++ sent_of o
asked_sent before k None d served = absurd served
asked_sent before k (Some l) d served = served.2

-- the backends that these desks gave were asked just their lanes' orders
pub carried_out : {B : Type 0} (asked : B → List Order) (before : ℕ → List Order) (lanes : List LaneView) (desks : List DeskView)
    (steps : List RunStep) (backends : List B) → map asked backends ≡ map (λ (d : DeskView). d.asked) desks → length desks ≡ length lanes
    → AreServed before lanes desks
    → ((k : ℕ) → k < length lanes → sent_in k lanes ≡ orders_of_lane (length lanes) k (orders_of steps))
    → AreCarriedOut asked before (length lanes) steps backends
carried_out {B} asked before lanes desks steps backends same each served sent k b at =
    let d = backed asked (λ (x : DeskView). x.asked) backends desks same k b at in
    let within : k < length desks = slice_get_within desks k d.0 d.1 in
    let below : k < length lanes = subst (λ (n : ℕ). k < n) each within in
    let both : IsServed before k (slice_get lanes k) (Some d.0) =
    subst (λ (o : Option DeskView). IsServed before k (slice_get lanes k) o) d.1 (served k) in
    d.2 ∙ (asked_sent before k (slice_get lanes k) d.0 both ∙ ap (λ (os : List Order). before k ++ os) (sent k below))

asked_unseen : (desks : List DeskView) → map (λ (d : DeskView). d.asked) (map desk_unseen desks) ≡ map (λ (d : DeskView). d.asked) desks
asked_unseen [] = refl
asked_unseen (d ∷ ds) = ap (λ (all : List (List Order)). d.asked ∷ all) (asked_unseen ds)

-- what backends were asked, whatever is seen at their desks
pub same_asked : (old new : List DeskView) → AreSameDesks old new → map (λ (d : DeskView). d.asked) new ≡ map (λ (d : DeskView). d.asked) old
same_asked old new same =
    sym (asked_unseen new) ∙ (ap (λ (ds : List DeskView). map (λ (d : DeskView). d.asked) ds) same ∙ asked_unseen old)

-- one backend comes of each desk
pub backend_each : {B : Type 0} (asked : B → List Order) (backends : List B) (desks : List DeskView)
    → map asked backends ≡ map (λ (d : DeskView). d.asked) desks → length backends ≡ length desks
backend_each asked backends desks same =
    sym (length-map backends asked) ∙ (ap length same ∙ length-map desks (λ (d : DeskView). d.asked))
