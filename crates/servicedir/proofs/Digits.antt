-- A number never gets less by further digits.
use Rattle.std.proofs.Common.{◌≡◌, ℕ, ◌+◌, ◌<◌, ◌≤◌, List, [], ◌∷◌, length, take, drop, fold, get_or, ap, sym, ◌∙◌, arith, subst}
use Rattle.std.proofs.lemmas.List.{take-append-drop}
use Rattle.std.proofs.lemmas.List.Sums.{fold-append, fold_more}
use Rattle.servicedir.specs.Number.{with_digit, value_of_digits}

-- further digits
pub grows : (n : ℕ) (digits : List ℕ) → n ≤ fold with_digit n digits
grows n [] = omega arith
grows n (d ∷ ds) = let more : with_digit n d ≤ fold with_digit (with_digit n d) ds = grows (with_digit n d) ds in omega (arith, more)

-- the number of the first digits is at most that of all
pub of_front : (k : ℕ) (digits : List ℕ) → value_of_digits (take k digits) ≤ value_of_digits digits
of_front k digits =
    let whole : fold with_digit (value_of_digits (take k digits)) (drop k digits) ≡ value_of_digits digits =
    sym (fold-append with_digit 0 (take k digits) (drop k digits)) ∙ ap value_of_digits (take-append-drop k digits) in
    let P : ℕ → Type 0 = λ v. value_of_digits (take k digits) ≤ v in
    subst P whole (grows (value_of_digits (take k digits)) (drop k digits))

-- once the first digits say too much, all do
pub too_much : (most k : ℕ) (digits : List ℕ) → k < length digits → most < with_digit (value_of_digits (take k digits)) (get_or digits k 0)
    → most < value_of_digits digits
too_much most k digits within more =
    let next : value_of_digits (take (k + 1) digits) ≡ with_digit (value_of_digits (take k digits)) (get_or digits k 0) =
    fold_more with_digit 0 digits k 0 within in
    let front : value_of_digits (take (k + 1) digits) ≤ value_of_digits digits = of_front (k + 1) digits in
    omega (arith, more, next, front)
