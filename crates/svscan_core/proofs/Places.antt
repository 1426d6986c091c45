-- What stands at a place of a list.
use Rattle.std.proofs.Common.{◌≡◌, ◌≢◌, ℕ, zero, suc, ◌<◌, List, [], ◌∷◌, refl, sym, ◌∙◌, ap, rules, arith, map, flat_map, take, drop, length}
use Rattle.std.proofs.Common.{◌++◌, append-nil, append_assoc}
use Rattle.std.specs.Prelude.{Option, Some, None, slice_get, slice_set, unwrap_or}

pub get_map : {X Y : Type 0} (f : X → Y) (xs : List X) (p : ℕ) (x : X) → slice_get xs p ≡ Some x → slice_get (map f xs) p ≡ Some (f x)
get_map f [] p x e = search rules
get_map {X} {Y} f (y ∷ xs) zero x e = ap over e
  where
    over : Option X → Option Y
    over None = None
    over (Some z) = Some (f z)
get_map f (y ∷ xs) (suc p) x e = get_map f xs p x e

pub get_set_same : {X : Type 0} (xs : List X) (p : ℕ) (x y : X) → slice_get xs p ≡ Some y → slice_get (slice_set xs p x) p ≡ Some x
get_set_same [] p x y e = search rules
get_set_same (z ∷ xs) zero x y e = refl
get_set_same (z ∷ xs) (suc p) x y e = get_set_same xs p x y e

pub get_set_other : {X : Type 0} (xs : List X) (p q : ℕ) (x : X) → q ≢ p → slice_get (slice_set xs q x) p ≡ slice_get xs p
get_set_other [] p q x n = refl
get_set_other (z ∷ xs) zero zero x n = absurd (n refl)
get_set_other (z ∷ xs) zero (suc q) x n = refl
get_set_other (z ∷ xs) (suc p) zero x n = refl
get_set_other (z ∷ xs) (suc p) (suc q) x n = get_set_other xs p q x (λ e. n (ap suc e))

-- a state that is put where it stands
pub set_itself : {X : Type 0} (xs : List X) (p : ℕ) (x : X) → slice_get xs p ≡ Some x → slice_set xs p x ≡ xs
set_itself [] p x e = search rules
set_itself (y ∷ xs) zero x e = ap (λ z. z ∷ xs) (sym (ap (λ o. unwrap_or o y) e))
set_itself (y ∷ xs) (suc p) x e = ap (λ zs. y ∷ zs) (set_itself xs p x e)

-- a list of which the front has moved on
abbrev pub half : {X : Type 0} → (X → X) → ℕ → List X → List X
half f p xs = map f (take p xs) ++ drop p xs

pub half_get : {X : Type 0} (f : X → X) (p : ℕ) (xs : List X) → slice_get (half f p xs) p ≡ slice_get xs p
half_get f zero [] = refl
half_get f zero (x ∷ xs) = refl
half_get f (suc p) [] = refl
half_get f (suc p) (x ∷ xs) = half_get f p xs

pub half_set : {X : Type 0} (f : X → X) (p : ℕ) (xs : List X) (x : X) → slice_get xs p ≡ Some x
    → slice_set (half f p xs) p (f x) ≡ half f (suc p) xs
half_set f zero [] x e = search rules
half_set f zero (y ∷ xs) x e = ap (λ z. f z ∷ xs) (sym (ap (λ o. unwrap_or o y) e))
half_set f (suc p) [] x e = search rules
half_set f (suc p) (y ∷ xs) x e = ap (λ zs. f y ∷ zs) (half_set f p xs x e)

pub half_all : {X : Type 0} (f : X → X) (xs : List X) → half f (length xs) xs ≡ map f xs
half_all f [] = refl
half_all f (x ∷ xs) = ap (λ zs. f x ∷ zs) (half_all f xs)

-- one more element of a list of lists
pub flat_more : {X Y : Type 0} (f : X → List Y) (p : ℕ) (xs : List X) (x : X) → slice_get xs p ≡ Some x
    → flat_map f (take (suc p) xs) ≡ flat_map f (take p xs) ++ f x
flat_more f zero [] x e = search rules
flat_more f zero (y ∷ xs) x e = append-nil (f y) ∙ ap f (ap (λ o. unwrap_or o y) e)
flat_more f (suc p) [] x e = search rules
flat_more f (suc p) (y ∷ xs) x e = ap (λ zs. f y ++ zs) (flat_more f p xs x e) ∙ sym (append_assoc (f y) (flat_map f (take p xs)) (f x))

-- what stands at a place within a list
pub record Stands {X : Type 0} (xs : List X) (p : ℕ) : Type 0 where
  pub item : X
  pub there : slice_get xs p ≡ Some item

pub stands_at : {X : Type 0} (xs : List X) (p : ℕ) → p < length xs → Stands xs p
stands_at [] p lt = absurd (omega (arith, lt))
stands_at (x ∷ xs) zero lt = record { item = x; there = refl }
stands_at (x ∷ xs) (suc p) lt = let rest = stands_at xs p (omega (arith, lt)) in record { item = rest.item; there = rest.there }

-- nothing stands past the end, whatever is put within
pub get_set_none : {X : Type 0} (xs : List X) (p q : ℕ) (x : X) → slice_get xs p ≡ None → slice_get (slice_set xs q x) p ≡ None
get_set_none [] p q x e = refl
get_set_none (z ∷ xs) zero q x e = search rules
get_set_none (z ∷ xs) (suc p) zero x e = e
get_set_none (z ∷ xs) (suc p) (suc q) x e = get_set_none xs p q x e
