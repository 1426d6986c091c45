-- What is printed in decimal is read as the same number.
use Rattle.std.proofs.Common.{◌≡◌, ℕ, ◌+◌, ◌-◌, ◌*◌, ◌^◌, ◌<◌, ◌≤◌, List, length, true, fold, Some, ap, ◌∙◌, arith, refl, rules}
use Rattle.std.specs.List.{list_all}
use Rattle.std.specs.Fmt.{decimal}
use Rattle.std.proofs.lemmas.Fmt.{decimal_is_IsNumeral}
use Rattle.std.proofs.lemmas.Str.Parse.{IsNumeralModel, FoldsDigits, numerals_by_fold, tells_all_ascii_digits}
use Rattle.servicedir.specs.Number.{is_digit, with_digit, value_of_digits, number_up_to}

folds : FoldsDigits (fold with_digit)
folds = record {
  empty = λ n. refl;
  more = λ n c cs k. let same : with_digit n c ≡ n * 10 + (c - 48) = omega arith in ap (λ m. fold with_digit m cs) same;
}

-- the words of this crate are those of std
model : IsNumeralModel (λ ds. list_all is_digit ds ≡ true) value_of_digits
model = numerals_by_fold (λ ds. list_all is_digit ds ≡ true) tells_all_ascii_digits (fold with_digit) folds

-- the decimal text of a number
pub read_back : (most n : ℕ) (text : List ℕ) → n ≤ most → n < 2 ^ 64 → text ≡ decimal n → number_up_to most text ≡ Some n
unfolding number_up_to
read_back most n text small fits is =
    let numeral = decimal_is_IsNumeral n fits in
    let digits : list_all is_digit (decimal n) ≡ true = model.from (decimal n) numeral.0.1 in
    let some : 0 < length (decimal n) = numeral.0.0 in
    let value : value_of_digits (decimal n) ≡ n = model.same (decimal n) numeral.0.1 ∙ numeral.1 in
    search rules
