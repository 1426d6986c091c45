-- A number is read back from its digits, one after the other.
use Rattle.std.proofs.Common.{rules, ◌≡◌, ◌∙◌, ℕ, zero, suc, ◌+◌, ◌-◌, ◌*◌, ◌^◌, ◌<◌, ◌≤◌, List, [], ◌∷◌, ◌++◌, refl, ap, sym, subst, arith, length, take, fold, get_or}
use Rattle.std.specs.Prelude.{Bool, true, false, ◌&&◌, ◌||◌, not, nat_eq, nat_le, decimal, Some, None, if◌then◌else◌}
use Rattle.std.specs.List.{list_all}
use Rattle.std.proofs.lemmas.Bool.{and_parts}
use Rattle.std.proofs.lemmas.Bool.Decides.{nat_tests}
use Rattle.std.proofs.lemmas.Fmt.{decimal_is_IsNumeral, decimal_digit, first_decimal, decimal-digits_value, length-decimal-le}
use Rattle.std.proofs.lemmas.Str.Parse.{IsNumeralModel, FoldsDigits, numerals_by_fold, tells_all_ascii_digits, digits_value_short}
use Rattle.std.proofs.lemmas.List.{take_more, take_all}
use Rattle.std.proofs.lemmas.List.Folds.{list_all-append}
use Rattle.std.proofs.lemmas.List.Sums.{fold-append}
use Rattle.std.proofs.lemmas.Option.{same_Some, none-some}
use Rattle.servicedir.specs.Number.{is_digit, are_digits, with_digit, value_of_digits, number_up_to}
use Rattle.servicedir.proofs.Decimals.{read_back}
use Rattle.s6_script.specs.Words.{begins_with_zero, is_number_text}

-- where these are digits, and what they write fits, it is this
abbrev pub Writes : List ℕ → ℕ → Type 0
Writes digits value = list_all is_digit digits ≡ true → value_of_digits digits < 2 ^ 64 → value ≡ value_of_digits digits

-- one digit more was read
pub one_digit_more : (word : List ℕ) (i value new : ℕ) → i < length word → Writes (take i word) value
    → (is_digit (get_or word i 0) ≡ true → with_digit value (get_or word i 0) < 2 ^ 64 → new ≡ with_digit value (get_or word i 0))
    → Writes (take (i + 1) word) new
one_digit_more word i value new here so_far adds digits fits =
    let byte = get_or word i 0 in
    let front = take i word in
    let more : take (i + 1) word ≡ front ++ byte ∷ [] = take_more word i 0 here in
    let both = and_parts (list_all is_digit front) (list_all is_digit (byte ∷ []))
    (sym (list_all-append is_digit front (byte ∷ [])) ∙ (ap (list_all is_digit) (sym more) ∙ digits)) in
    let writes : value_of_digits (take (i + 1) word) ≡ with_digit (value_of_digits front) byte =
    ap value_of_digits more ∙ fold-append with_digit 0 front (byte ∷ []) in
    let low : with_digit (value_of_digits front) byte < 2 ^ 64 = subst (λ v. v < 2 ^ 64) writes fits in
    let same : value ≡ value_of_digits front = so_far both.0 (omega (arith, low)) in
    let now : with_digit value byte ≡ with_digit (value_of_digits front) byte = ap (λ v. with_digit v byte) same in
    adds (and_parts (is_digit byte) true both.1).0 (subst (λ v. v < 2 ^ 64) (sym now) low) ∙ (now ∙ sym writes)

-- the decimal text of a number is digits, which write it
pub digits_back : (n : ℕ) (text : List ℕ) → n < 2 ^ 64 → text ≡ decimal n → (list_all is_digit text ≡ true) × (value_of_digits text ≡ n)
unfolding number_up_to
digits_back n text small is =
    by (are_digits text && nat_le (value_of_digits text) n) refl (read_back n n text (omega arith) small is)
  where
    by : (v : Bool) → (are_digits text && nat_le (value_of_digits text) n) ≡ v → (if v then Some (value_of_digits text) else None) ≡ Some n
        → (list_all is_digit text ≡ true) × (value_of_digits text ≡ n)
    by true e h =
        let digits = and_parts (nat_le 1 (length text)) (list_all is_digit text)
        (and_parts (are_digits text) (nat_le (value_of_digits text) n) e).0 in
        (digits.1, same_Some (value_of_digits text) n h)
    by false e h = absurd (none-some n h)

-- all digits were read
pub all_digits_read : (word : List ℕ) (i value n : ℕ) → length word ≤ i → Writes (take i word) value → n < 2 ^ 64 → word ≡ decimal n → value ≡ n
all_digits_read word i value n end so_far small is =
    let all : take i word ≡ word = take_all i word (omega (arith, end)) in
    let back = digits_back n word small is in
    so_far (ap (list_all is_digit) all ∙ back.0) (subst (λ v. v < 2 ^ 64) (sym (ap value_of_digits all ∙ back.1)) small)
    ∙ (ap value_of_digits all ∙ back.1)

-- the words of servicedir are those of std
folds : FoldsDigits (fold with_digit)
folds = record {
  empty = λ n. refl;
  more = λ n c cs k. let same : with_digit n c ≡ n * 10 + (c - 48) = omega arith in ap (λ m. fold with_digit m cs) same;
}

model : IsNumeralModel (λ ds. list_all is_digit ds ≡ true) value_of_digits
model = numerals_by_fold (λ ds. list_all is_digit ds ≡ true) tells_all_ascii_digits (fold with_digit) folds

-- the digits of a number below 10^19
pub number_text_of : (n : ℕ) → n < 10 ^ 19 → is_number_text (decimal n) ≡ true
number_text_of zero small = rw (decimal_digit 0 (omega arith)) refl
number_text_of (suc n) small =
    let fits : suc n < 2 ^ 64 = omega (arith, small) in
    let numeral = decimal_is_IsNumeral (suc n) fits in
    let some : 0 < length (decimal (suc n)) = numeral.0.0 in
    let few : length (decimal (suc n)) ≤ 19 = length-decimal-le 19 (suc n) (omega arith) (omega (arith, small)) fits in
    let first : 48 < get_or (decimal (suc n)) 0 0 = first_decimal (suc n) (omega arith) fits in
    search rules

-- digits that are such a text are written of the number that they say
pub number_text_back : (word : List ℕ) → list_all is_digit word ≡ true → is_number_text word ≡ true
    → (value_of_digits word < 2 ^ 64) × (word ≡ decimal (value_of_digits word))
number_text_back word digits is =
    let parts = and_parts (nat_le 1 (length word) && nat_le (length word) 19) (nat_eq (length word) 1 || not (begins_with_zero word)) is in
    let sizes = and_parts (nat_le 1 (length word)) (nat_le (length word) 19) parts.0 in
    let some : 0 < length word = grind (arith, nat_tests, sizes.0) in
    let short : length word ≤ 19 = grind (arith, nat_tests, sizes.1) in
    let few : value_of_digits word < 10 ^ 19 = digits_value_short model word 19 digits short in
    let fits : value_of_digits word < 2 ^ 64 = omega (arith, few) in
    let plain : get_or word 0 0 ≡ 48 → length word ≡ 1 = λ zero. search rules in
    (fits, sym (decimal-digits_value model word digits some plain fits))
