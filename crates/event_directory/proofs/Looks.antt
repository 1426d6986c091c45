-- Looking a subscription up, and taking it out.
use Rattle.std.proofs.Common.{◌≡◌, ℕ, List, [], ◌∷◌, Bool, true, false, map, ◌++◌, Some, None}
use Rattle.std.proofs.Common.{refl, option_map, ap, ◌==◌, ◌∙◌, cond}
use Rattle.event_directory.specs.Sending.{view_of, kept_without}
use Rattle.event_directory.specs.Stored.{StoredSubscription, all_standing, kept_in, planned_of, planned_standing, stored_of}
use Rattle.event_directory.specs.Stored.{stored_without}
use Rattle.event_directory.specs.declared.sub_view.State.{State}

abbrev pub shown : StoredSubscription → List ℕ × State
shown s = (s.standing.reading.letters, s.standing.reading.state)

cond-map : {X Y : Type 0} (f : X → Y) (b : Bool) (x y : X) → f (cond b x y) ≡ cond b (f x) (f y)
cond-map f true x y = refl
cond-map f false x y = refl

pub view_as_stored : (id : ℕ) (text : List ℕ) (xs : List StoredSubscription) → view_of id (all_standing text xs) ≡ option_map shown (stored_of id xs)
view_as_stored id text [] = refl
view_as_stored id text (x ∷ xs) = rw (view_as_stored id text xs, cond-map (option_map shown) (x.standing.id == id)) refl

pub without_standing : (id : ℕ) (text : List ℕ) (xs : List StoredSubscription)
    → all_standing text (stored_without id xs) ≡ kept_without id (all_standing text xs)
without_standing id text [] = refl
without_standing id text (x ∷ xs) =
    rw (cond-map (all_standing text) (x.standing.id == id), without_standing id text xs) refl

without_planned_standing : (id : ℕ) (text : List ℕ) (xs : List StoredSubscription)
    → map (kept_in text) (map planned_standing (stored_without id xs)) ≡ kept_without id (map (kept_in text) (map planned_standing xs))
without_planned_standing id text [] = refl
without_planned_standing id text (x ∷ xs) =
    rw (cond-map (λ l. map (kept_in text) (map planned_standing l)) (x.standing.id == id), without_planned_standing id text xs) refl

pub without_planned : (id : ℕ) (b : Bool) (text letters : List ℕ) (xs : List StoredSubscription)
    → planned_of b text letters (stored_without id xs) ≡ kept_without id (planned_of b text letters xs)
without_planned id true text letters xs = without_planned_standing id (text ++ letters) xs
without_planned id false text letters xs = without_standing id text xs

pub list_none : (id : ℕ) (text : List ℕ) (xs : List StoredSubscription) → stored_of id xs ≡ None → view_of id (all_standing text xs) ≡ None
list_none id text xs e = view_as_stored id text xs ∙ ap (option_map shown) e

pub list_some : (id : ℕ) (text : List ℕ) (xs : List StoredSubscription) (s : StoredSubscription) → stored_of id xs ≡ Some s
    → view_of id (all_standing text xs) ≡ Some (shown s)
list_some id text xs s e = view_as_stored id text xs ∙ ap (option_map shown) e
