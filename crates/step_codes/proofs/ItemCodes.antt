-- The items of a list, one after the other.
use Rattle.std.proofs.Common.{◌≡◌, ℕ, zero, suc, ◌<◌, List, [], ◌∷◌, ◌++◌, length, take, drop, slice_get, Some, refl, ap, arith}
use Rattle.std.proofs.Common.{min}
use Rattle.step_codes.specs.ListCodes.{AllFit}

-- the item at a place: the list from there on begins with it, and the list up to the next place ends in it
pub record IsItem {X : Type 0} (fits : X → Type 0) (k : ℕ) (xs : List X) : Type 0 where
  pub item : X
  pub there : slice_get xs k ≡ Some item
  pub left : drop k xs ≡ item ∷ drop (suc k) xs
  pub before : take (suc k) xs ≡ take k xs ++ item ∷ []
  pub fit : AllFit fits xs → fits item
  pub fits_from : fits item → AllFit fits (drop (suc k) xs) → AllFit fits (drop k xs)

pub item_at : {X : Type 0} (fits : X → Type 0) (k : ℕ) (xs : List X) → k < length xs → IsItem fits k xs
item_at fits k [] low = absurd (omega arith)
item_at fits zero (x ∷ xs) low = record {
  item = x;
  there = refl;
  left = refl;
  before = refl;
  fit = λ all. all.0;
  fits_from = λ one all. (one, all);
}
item_at {X} fits (suc k) (x ∷ xs) low =
    let next = item_at fits k xs (omega arith) in
    record {
      item = next.item;
      there = next.there;
      left = next.left;
      before = ap (λ (ys : List X). x ∷ ys) next.before;
      fit = λ all. next.fit all.1;
      fits_from = next.fits_from;
    }

pub drop_all : {X : Type 0} (xs : List X) → drop (length xs) xs ≡ []
drop_all [] = refl
drop_all (x ∷ xs) = drop_all xs

pub take_all : {X : Type 0} (xs : List X) → take (length xs) xs ≡ xs
take_all [] = refl
take_all {X} (x ∷ xs) = ap (λ (ys : List X). x ∷ ys) (take_all xs)

pub min_low : (k n : ℕ) → k < n → min k n ≡ k
min_low k n low = omega arith
