-- Where an actor's steps stand: they are found there, and one step more joins one actor's alone.
use Rattle.std.proofs.Common.{◌≡◌, ◌≢◌, ℕ, zero, suc, ◌+◌, ◌-◌, ◌<◌, ◌≤◌, ◌==◌, Bool, true, false, ⊎_elim, List, [], ◌∷◌, ◌++◌, if◌then◌else◌, length, map, option_map, Some, None, slice_get, slice_set, get_or, refl, ap, sym, subst, ◌∙◌, arith}
use Rattle.std.proofs.lemmas.Bool.Decides.{nat_tests}
use Rattle.std.proofs.lemmas.List.{append-nil, append_assoc}
use Rattle.std.proofs.lemmas.Option.{slice_get-map, slice_get_within, slice_get_read}
use Rattle.run_records.specs.Runs.{RunStep, PlaceList, steps_of, places_from, ArePlaced, AreEmpty, reply_at}
use Rattle.channel_names.proofs.Places.{read_set, set_here}

-- a step stands at this place, counted from m, and it is the actor's step of this number
pub record IsFound (m a n j : ℕ) (steps : List RunStep) : Type 0 where
  pub offset : ℕ
  pub step : RunStep
  pub place : j ≡ m + offset
  pub there : slice_get steps offset ≡ Some step
  pub own : slice_get (steps_of a steps) n ≡ Some step

found_after : (m a n j : ℕ) (x : RunStep) (xs : List RunStep) (b : Bool) → (x.input.actor == a) ≡ b
    → ((k : ℕ) → slice_get (places_from (suc m) a xs) k ≡ Some j → IsFound (suc m) a k j xs)
    → slice_get ((if b then m ∷ [] else []) ++ places_from (suc m) a xs) n ≡ Some j → IsFound m a n j (x ∷ xs)
found_after m a zero j x xs true is rest e = record {
  offset = 0;
  step = x;
  place = let same : m ≡ j = cc (e) in omega arith;
  there = refl;
  own = rw is refl;
}
found_after m a (suc n) j x xs true is rest e =
    let r = rest n e in
    let place : j ≡ suc m + r.offset = r.place in
    record { offset = suc r.offset; step = r.step; place = omega arith; there = r.there; own = rw is r.own }
found_after m a n j x xs false is rest e =
    let r = rest n e in
    let place : j ≡ suc m + r.offset = r.place in
    record { offset = suc r.offset; step = r.step; place = omega arith; there = r.there; own = rw is r.own }

pub found : (m a n j : ℕ) (xs : List RunStep) → slice_get (places_from m a xs) n ≡ Some j → IsFound m a n j xs
found m a n j [] e = absurd (cc (e))
found m a n j (x ∷ xs) e = found_after m a n j x xs (x.input.actor == a) refl (λ k h. found (suc m) a k j xs h) e

none_after : (m a n : ℕ) (x : RunStep) (xs : List RunStep) (b : Bool) → (x.input.actor == a) ≡ b
    → ((k : ℕ) → slice_get (places_from (suc m) a xs) k ≡ None → slice_get (steps_of a xs) k ≡ None)
    → slice_get ((if b then m ∷ [] else []) ++ places_from (suc m) a xs) n ≡ None → slice_get (steps_of a (x ∷ xs)) n ≡ None
none_after m a zero x xs true is rest e = absurd (cc (e))
none_after m a (suc n) x xs true is rest e = rw is (rest n e)
none_after m a n x xs false is rest e = rw is (rest n e)

pub found_none : (m a n : ℕ) (xs : List RunStep) → slice_get (places_from m a xs) n ≡ None → slice_get (steps_of a xs) n ≡ None
found_none m a n [] e = refl
found_none m a n (x ∷ xs) e = none_after m a n x xs (x.input.actor == a) refl (λ k h. found_none (suc m) a k xs h) e

-- the place of a step that joins, where it is the actor's
abbrev pub joined : ℕ → ℕ → RunStep → List ℕ
joined place a x = if x.input.actor == a then place ∷ [] else []

pub places_snoc : (m a : ℕ) (xs : List RunStep) (x : RunStep)
    → places_from m a (xs ++ x ∷ []) ≡ places_from m a xs ++ joined (m + length xs) a x
places_snoc m a [] x =
    let e : m + 0 ≡ m = omega arith in
    rw e (append-nil (joined m a x))
places_snoc m a (y ∷ ys) x =
    let e : suc m + length ys ≡ m + suc (length ys) = omega arith in
    ap (λ (ps : List ℕ). joined m a y ++ ps) (places_snoc (suc m) a ys x ∙ ap (λ (p : ℕ). places_from (suc m) a ys ++ joined p a x) e)
    ∙ sym (append_assoc (joined m a y) (places_from (suc m) a ys) (joined (m + suc (length ys)) a x))

joined_own : (p a : ℕ) (x : RunStep) (b : Bool) → (x.input.actor == a) ≡ b → x.input.actor ≡ a → joined p a x ≡ p ∷ []
joined_own p a x true is own = rw is refl
joined_own p a x false is own = absurd (grind (arith, nat_tests))

joined_other : (p a : ℕ) (x : RunStep) (b : Bool) → (x.input.actor == a) ≡ b → a ≢ x.input.actor → joined p a x ≡ []
joined_other p a x true is other = absurd (other (sym (grind (arith, nat_tests))))
joined_other p a x false is other = rw is refl

-- the places of an actor, once a step stands after all others
places_last : (a : ℕ) (xs : List RunStep) (x : RunStep)
    → places_from 0 a (xs ++ x ∷ []) ≡ places_from 0 a xs ++ joined (length xs) a x
places_last a xs x =
    let e : 0 + length xs ≡ length xs = omega arith in
    places_snoc 0 a xs x ∙ ap (λ (p : ℕ). places_from 0 a xs ++ joined p a x) e

-- a step joins, and its place joins those of its actor
pub placed_snoc : (all : List PlaceList) (steps : List RunStep) (x : RunStep) (old new : PlaceList)
    → ArePlaced all steps → slice_get all x.input.actor ≡ Some old → new.places ≡ old.places ++ length steps ∷ []
    → ArePlaced (slice_set all x.input.actor new) (steps ++ x ∷ [])
placed_snoc all steps x old new placed here more a one at =
    let b = x.input.actor in
    ⊎_elim
    (λ t. let own : joined (length steps) b x ≡ length steps ∷ [] = joined_own (length steps) b x (b == b) refl refl in
    ap (λ (p : PlaceList). p.places) (sym t.1)
    ∙ (more ∙ (ap (λ (ps : List ℕ). ps ++ length steps ∷ []) (placed b old here)
    ∙ (ap (λ (ps : List ℕ). places_from 0 b steps ++ ps) (sym own)
    ∙ (sym (places_last b steps x) ∙ ap (λ (k : ℕ). places_from 0 k (steps ++ x ∷ [])) (sym t.0))))))
    (λ t. placed a one t.1
    ∙ (sym (append-nil (places_from 0 a steps))
    ∙ (ap (λ (ps : List ℕ). places_from 0 a steps ++ ps) (sym (joined_other (length steps) a x (b == a) refl t.0))
    ∙ sym (places_last a steps x))))
    (read_set all b a new one at)

-- the places stay where only the room changes
pub placed_same : (all : List PlaceList) (steps : List RunStep) (k : ℕ) (old new : PlaceList)
    → ArePlaced all steps → slice_get all k ≡ Some old → new.places ≡ old.places → ArePlaced (slice_set all k new) steps
placed_same all steps k old new placed here same a one at =
    ⊎_elim
    (λ t. ap (λ (p : PlaceList). p.places) (sym t.1) ∙ (same ∙ (placed k old here ∙ ap (λ (b : ℕ). places_from 0 b steps) (sym t.0))))
    (λ t. placed a one t.1)
    (read_set all k a new one at)

pub empty_snoc : (all : List PlaceList) (x : PlaceList) → AreEmpty all → x.places ≡ [] → AreEmpty (all ++ x ∷ [])
empty_snoc [] x all none zero one at = let e : x ≡ one = cc (at) in ap (λ (p : PlaceList). p.places) (sym e) ∙ none
empty_snoc [] x all none (suc k) one at = absurd (cc (at))
empty_snoc (y ∷ ys) x all none zero one at = all zero one at
empty_snoc (y ∷ ys) x all none (suc k) one at = empty_snoc ys x (λ j o h. all (suc j) o h) none k one at

-- the room of an actor's places
pub room_at : (all : List PlaceList) (k : ℕ) (one : PlaceList) → slice_get all k ≡ Some one
    → slice_get (map (λ (p : PlaceList). p.room) all) k ≡ Some one.room
room_at all k one here =
    slice_get-map (λ (p : PlaceList). p.room) all k ∙ ap (option_map (λ (p : PlaceList). p.room)) here

-- the reply that is found, and that there is none
pub reply_found : (a number place : ℕ) (steps : List RunStep) → 0 < number → slice_get (places_from 0 a steps) (number - 1) ≡ Some place
    → reply_at a number steps ≡ option_map (λ s. s.outcome.reply) (slice_get steps place)
reply_found a zero place steps low e = absurd (omega arith)
reply_found a (suc n) place steps low e =
    let one : suc n - 1 ≡ n = omega arith in
    let f : IsFound 0 a n place steps = found 0 a n place steps (subst (λ (k : ℕ). slice_get (places_from 0 a steps) k ≡ Some place) one e) in
    let at : place ≡ f.offset = f.place ∙ omega arith in
    ap (option_map (λ s. s.outcome.reply)) (f.own ∙ (sym f.there ∙ ap (slice_get steps) (sym at)))

pub reply_none : (a number : ℕ) (steps : List RunStep) → 0 < number → slice_get (places_from 0 a steps) (number - 1) ≡ None
    → reply_at a number steps ≡ None
reply_none a zero steps low e = absurd (omega arith)
reply_none a (suc n) steps low e =
    let one : suc n - 1 ≡ n = omega arith in
    ap (option_map (λ s. s.outcome.reply)) (found_none 0 a n steps (subst (λ (k : ℕ). slice_get (places_from 0 a steps) k ≡ None) one e))

-- the place that is found is that of a step
pub place_within : (a n place : ℕ) (steps : List RunStep) → slice_get (places_from 0 a steps) n ≡ Some place → place < length steps
place_within a n place steps e =
    let f : IsFound 0 a n place steps = found 0 a n place steps e in
    let at : place ≡ 0 + f.offset = f.place in
    let low : f.offset < length steps = slice_get_within steps f.offset f.step f.there in
    omega arith

-- the room of all, where that of one changes
pub room_set : (all : List PlaceList) (k free : ℕ) (old new : PlaceList) → slice_get all k ≡ Some old
    → slice_get (map (λ (p : PlaceList). p.room) (slice_set all k new)) k ≡ Some free → new.room ≡ free
room_set all k free old new here at =
    let r : Some new.room ≡ Some free = sym (room_at (slice_set all k new) k new (set_here all k old new here)) ∙ at in
    cc (r)

-- what stands at an actor's place, of 16
pub actor_there : (all : List PlaceList) (k actor : ℕ) (one : PlaceList) → length all ≡ 16 → actor ≤ 15 → k ≡ actor
    → one ≡ get_or all k one → slice_get all actor ≡ Some one
actor_there all k actor one n low same read =
    subst (λ (j : ℕ). slice_get all j ≡ Some one) same (slice_get_read all (length all) k one refl (omega arith) read)
