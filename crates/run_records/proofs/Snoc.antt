-- A list that is one longer.
use Rattle.std.proofs.Common.{ℕ, zero, suc, ◌≡◌, ◌<◌, List, [], ◌∷◌, ◌++◌, All, map, length, slice_get, Some, refl, arith}

pub all_snoc : {A : Type 0} (P : A → Type 0) (xs : List A) (x : A) → All P xs → P x → All P (xs ++ x ∷ [])
all_snoc P [] x all p zero d below = p
all_snoc P [] x all p (suc k) d below = absurd (omega arith)
all_snoc P (y ∷ ys) x all p zero d below = all zero y (omega arith)
all_snoc P (y ∷ ys) x all p (suc k) d below = all_snoc P ys x (λ j e b. all (suc j) e (omega arith)) p k d (omega arith)

pub last_there : {A : Type 0} (xs : List A) (x : A) → slice_get (xs ++ x ∷ []) (length xs) ≡ Some x
last_there [] x = refl
last_there (y ∷ ys) x = last_there ys x

pub get_grown : {A : Type 0} (xs more : List A) (k : ℕ) (x : A) → slice_get xs k ≡ Some x → slice_get (xs ++ more) k ≡ Some x
get_grown [] more k x e = absurd (cc (e))
get_grown (y ∷ ys) more zero x e = e
get_grown (y ∷ ys) more (suc k) x e = get_grown ys more k x e

-- what is there at a place of a list
pub record IsThereAt {A : Type 0} (xs : List A) (k : ℕ) : Type 0 where
  pub one : A
  pub there : slice_get xs k ≡ Some one

pub there_at : {A : Type 0} (xs : List A) (k : ℕ) → k < length xs → IsThereAt xs k
there_at [] k low = absurd (omega arith)
there_at (x ∷ xs) zero low = record { one = x; there = refl }
there_at (x ∷ xs) (suc k) low = let rest = there_at xs k (omega arith) in record { one = rest.one; there = rest.there }

pub low_there : {A B : Type 0} (f : A → B) (xs : List A) (k : ℕ) (y : B) → slice_get (map f xs) k ≡ Some y → k < length xs
low_there f [] k y e = absurd (cc (e))
low_there f (x ∷ xs) zero y e = omega arith
low_there f (x ∷ xs) (suc k) y e = let rest = low_there f xs k y e in omega arith
