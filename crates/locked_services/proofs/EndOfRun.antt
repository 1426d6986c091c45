-- What a look into the rings leaves as it was.
use Rattle.std.proofs.Common.{◌≡◌, ℕ, zero, suc, List, [], ◌∷◌, Option, Some, None, map, option_map, length, slice_get, slice_set, refl, ap, sym, ◌∙◌}
use Rattle.std.proofs.lemmas.List.{length-map}
use Rattle.std.proofs.lemmas.Option.{slice_get-map}
use Rattle.inbox.specs.Ends.{DrainView}
use Rattle.order_lanes.specs.Lane.{LaneView, sent_in, sent_of}
use Rattle.locked_services.specs.Closing.{drain_unseen, lane_unseen, AreSameDrains, AreSameLanes, IsSameRunning}
use Rattle.locked_services.specs.Running.{RunningView, IsSoundRunning}
use Rattle.locked_services.specs.Submissions.{AreNumbered, taken_by, taken_from}
use Rattle.locked_services.proofs.Lasting.{sound_looked}

-- one was replaced by one that looks the same
pub map_set : {A B : Type 0} (f : A → B) (xs : List A) (k : ℕ) (p q : A) → slice_get xs k ≡ Some p → f q ≡ f p
    → map f (slice_set xs k q) ≡ map f xs
map_set f [] k p q here same = refl
map_set {A} {B} f (x ∷ xs) zero p q here same =
    let e : x ≡ p = cc (here) in ap (λ (y : B). y ∷ map f xs) (same ∙ ap f (sym e))
map_set {A} {B} f (x ∷ xs) (suc k) p q here same = ap (λ (ys : List B). f x ∷ ys) (map_set f xs k p q here same)

-- what looks the same, at each place
pub same_at : {A B : Type 0} (f : A → B) (old new : List A) → map f new ≡ map f old → (k : ℕ)
    → option_map f (slice_get new k) ≡ option_map f (slice_get old k)
same_at {A} {B} f old new same k =
    sym (slice_get-map f new k) ∙ (ap (λ (ys : List B). slice_get ys k) same ∙ slice_get-map f old k)

pub same_length : {A B : Type 0} (f : A → B) (old new : List A) → map f new ≡ map f old → length new ≡ length old
same_length f old new same = sym (length-map new f) ∙ (ap length same ∙ length-map old f)

-- there is one at the place that looks as this one does
pub same_there : {A B : Type 0} (f : A → B) (o : Option A) (y : A) → option_map f (Some y) ≡ option_map f o → (x : A) × (o ≡ Some x) × (f y ≡ f x)
same_there f None y e = absurd (cc (e))
same_there f (Some x) y e = (x, refl, cc (e))

taken_unseen : (o : Option DrainView) → taken_by (option_map drain_unseen o) ≡ taken_by o
taken_unseen None = refl
taken_unseen (Some d) = refl

pub same_taken : (old new : List DrainView) → AreSameDrains old new → (actor : ℕ) → taken_from actor new ≡ taken_from actor old
same_taken old new same actor =
    sym (taken_unseen (slice_get new actor)) ∙ (ap taken_by (same_at drain_unseen old new same actor) ∙ taken_unseen (slice_get old actor))

pub same_numbered : (old new : List DrainView) → AreSameDrains old new → AreNumbered old → AreNumbered new
same_numbered old new same numbered k d at =
    let t = same_there drain_unseen (slice_get old k) d (ap (option_map drain_unseen) (sym at) ∙ same_at drain_unseen old new same k) in
    ap (λ (x : DrainView). x.actor) t.2 ∙ numbered k t.0 t.1

sent_unseen : (o : Option LaneView) → sent_of (option_map lane_unseen o) ≡ sent_of o
sent_unseen None = refl
sent_unseen (Some l) = refl

pub same_sent : (old new : List LaneView) → AreSameLanes old new → (k : ℕ) → sent_in k new ≡ sent_in k old
same_sent old new same k =
    sym (sent_unseen (slice_get new k)) ∙ (ap sent_of (same_at lane_unseen old new same k) ∙ sent_unseen (slice_get old k))

-- a run of which nothing but what is seen changed is as sound as before
pub sound_same : (v w : RunningView) → IsSameRunning v w → IsSoundRunning v → IsSoundRunning w
sound_same v w same sound =
    sound_looked v w sound (same_numbered v.drains w.drains same.drains sound.numbered) (same_taken v.drains w.drains same.drains)
    same.opening same.tree same.steps same.held (same_length lane_unseen v.lanes w.lanes same.lanes) (same_sent v.lanes w.lanes same.lanes)

pub same_running : (u v w : RunningView) → IsSameRunning u v → IsSameRunning v w → IsSameRunning u w
same_running u v w one two = record {
  opening = two.opening ∙ one.opening;
  tree = two.tree ∙ one.tree;
  steps = two.steps ∙ one.steps;
  drains = two.drains ∙ one.drains;
  held = two.held ∙ one.held;
  lanes = two.lanes ∙ one.lanes;
}
