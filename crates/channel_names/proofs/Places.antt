-- A list of which one place changes.
use Rattle.std.proofs.Common.{◌≡◌, ◌≢◌, ℕ, zero, suc, ◌⊎◌, inl, inr, ⊎_elim, List, [], ◌∷◌, Option, Some, slice_get, slice_set, refl, ap, arith, ◌++◌, length}

pub read_set : {A : Type 0} (l : List A) (i j : ℕ) (a b : A) → slice_get (slice_set l i a) j ≡ Some b
    → ((j ≡ i) × (a ≡ b)) ⊎ ((j ≢ i) × (slice_get l j ≡ Some b))
read_set [] i j a b e = absurd (cc (e))
read_set (x ∷ xs) zero zero a b e = inl (refl, cc (e))
read_set (x ∷ xs) zero (suc j) a b e = inr ((λ h. omega arith), e)
read_set (x ∷ xs) (suc i) zero a b e = inr ((λ h. omega arith), e)
read_set (x ∷ xs) (suc i) (suc j) a b e = ⊎_elim (λ t. inl (ap suc t.0, t.1)) (λ t. let n = t.0 in inr ((λ h. n (omega arith)), t.1))
    (read_set xs i j a b e)

-- what stands at the place that changes, and at each other one
pub set_here : {A : Type 0} (l : List A) (i : ℕ) (p q : A) → slice_get l i ≡ Some p → slice_get (slice_set l i q) i ≡ Some q
set_here [] i p q e = absurd (cc (e))
set_here (x ∷ xs) zero p q e = refl
set_here (x ∷ xs) (suc i) p q e = set_here xs i p q e

pub set_there : {A : Type 0} (l : List A) (i j : ℕ) (q : A) → j ≢ i → slice_get (slice_set l i q) j ≡ slice_get l j
set_there [] i j q ne = refl
set_there (x ∷ xs) zero zero q ne = absurd (ne refl)
set_there (x ∷ xs) zero (suc j) q ne = refl
set_there (x ∷ xs) (suc i) zero q ne = refl
set_there (x ∷ xs) (suc i) (suc j) q ne = set_there xs i j q (λ e. ne (ap suc e))

-- what is told of each place, where it stays the same at the one that changes
pub told_set : {A B : Type 0} (f : Option A → B) (l : List A) (i : ℕ) (p q : A) → slice_get l i ≡ Some p → f (Some q) ≡ f (Some p) → (j : ℕ)
    → f (slice_get (slice_set l i q) j) ≡ f (slice_get l j)
told_set f [] i p q here same j = refl
told_set f (x ∷ xs) zero p q here same zero = let e : x ≡ p = cc (here) in rw e same
told_set f (x ∷ xs) zero p q here same (suc j) = refl
told_set f (x ∷ xs) (suc i) p q here same zero = refl
told_set f (x ∷ xs) (suc i) p q here same (suc j) = told_set f xs i p q here same j

-- what is read of a list that is one longer
pub get_last : {A : Type 0} (xs : List A) (x : A) (k : ℕ) (r : A) → slice_get (xs ++ x ∷ []) k ≡ Some r
    → (slice_get xs k ≡ Some r) ⊎ ((length xs ≡ k) × (x ≡ r))
get_last [] x zero r e = inr (refl, cc (e))
get_last [] x (suc k) r e = absurd (cc (e))
get_last (y ∷ ys) x zero r e = inl e
get_last (y ∷ ys) x (suc k) r e = ⊎_elim inl (λ t. inr (ap suc t.0, t.1)) (get_last ys x k r e)
