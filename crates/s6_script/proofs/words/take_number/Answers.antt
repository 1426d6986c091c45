use Rattle.std.proofs.Common.{◌≡◌, ◌∙◌, ℕ, ◌+◌, ◌<◌, ◌≤◌, ◌^◌, List, [], ◌∷◌, ap, sym, subst, arith, drop, take, length, true, false, Some, ◌⊎◌, inl, inr}
use Rattle.std.specs.Prelude.{Bool, decimal, nat_lt, get_or, slice_index_or, if◌then◌else◌}
use Rattle.std.specs.List.{list_all}
use Rattle.std.proofs.lemmas.Bool.{false≢true}
use Rattle.std.proofs.lemmas.Bool.Decides.{nat_tests}
use Rattle.std.proofs.lemmas.Fmt.{decimal_nonempty}
use Rattle.std.proofs.lemmas.List.{get_or_default, take_rest}
use Rattle.servicedir.specs.Number.{is_digit, value_of_digits}
use Rattle.s6_script.specs.Verb.{text_words}
use Rattle.s6_script.specs.Words.{is_number_text}
use Rattle.s6_script.proofs.FrontNumbers.{IsFront, first_is_front, whole_line, up_to_space}
use Rattle.s6_script.proofs.Numbers.{digits_back, number_text_of, number_text_back}
use Rattle.s6_script.proofs.WordsTaken.{left_words}
use Rattle.s6_script.proofs.words.take_number.Goals as goal

-- the digits at the front of a line, and the number that was read of them
module _ (line : List ℕ) (count value : ℕ) (within : count ≤ length line) (digits : list_all is_digit (take count line) ≡ true)
    (end : count < length line → is_digit (get_or line count 0) ≡ false)
    (writes : value_of_digits (take count line) < 2 ^ 64 → value ≡ value_of_digits (take count line)) where
  front : (n : ℕ) → n < 10 ^ 19 → slice_index_or (text_words line) 0 [] ≡ decimal n → IsFront line count n
  front n low first = first_is_front line count n (omega (arith, low)) first within digits end

  value_is : (n : ℕ) → n < 10 ^ 19 → take count line ≡ decimal n → value ≡ n
  value_is n low text =
      let small : n < 2 ^ 64 = omega (arith, low) in
      let back : value_of_digits (take count line) ≡ n = (digits_back n (take count line) small text).1 in
      writes (subst (λ v. v < 2 ^ 64) (sym back) small) ∙ back

  text_is : is_number_text (take count line) ≡ true → take count line ≡ decimal value
  text_is is =
      let back = number_text_back (take count line) digits is in
      back.1 ∙ ap decimal (sym (writes back.0))

pub returns-then-not-words-clause-spelled : goal.returns-then-not-words-clause-spelled
returns-then-not-words-clause-spelled c = λ n le low e.
    let none : c.args.words.now ≡ [] =
    sym c.words.view_is ∙ ap (λ m. if m then text_words c.words.inside.rest.now else []) c.if-not-words.true in
    let text : [] ≡ decimal n = sym (ap (λ ws. slice_index_or ws 0 []) none) ∙ e in
    absurd (omega (arith, decimal_nonempty n (omega (arith, low)), ap length text))

not_both : (is_text : Bool) (value most : ℕ) → ((is_text ≡ false) ⊎ ((is_text ≡ true) × (most < value))) → is_text ≡ true → value ≤ most → ⊥
not_both is_text value most (inl none) is low = false≢true (sym none ∙ is)
not_both is_text value most (inr high) is low = omega (arith, high.1, low)

pub returns-then-not-is_number_text-clause-spelled : goal.returns-then-not-is_number_text-clause-spelled
returns-then-not-is_number_text-clause-spelled c = λ n le low e.
    let line = c.words.inside.rest.now in
    let count = c.digits_at_front-count.result.0 in
    let value = c.digits_at_front-count.result.1 in
    let all = left_words c.words.inside.more line c.args.words.now (sym c.words.view_is) c.if-not-words.false in
    let told = c.digits_at_front-count.ensures in
    let found = front line count value told.within told.digits told.end told.value n low (sym (ap (λ ws. slice_index_or ws 0 []) all) ∙ e) in
    let is : c.is_number_text.result ≡ true = c.is_number_text.ensures ∙ (ap is_number_text found.text ∙ number_text_of n low) in
    let same : value ≡ n = value_is line count value told.within told.digits told.end told.value n low found.text in
    absurd (not_both c.is_number_text.result value c.args.most c.then-not-is_number_text.either is (omega (arith, same, le)))

no_other : (line : List ℕ) (count byte n : ℕ) → IsFront line count n → true ≡ nat_lt count (length line) → byte ≡ get_or line count byte
    → (byte ≡ 32 → ⊥) → ⊥
no_other line count byte n found within here other = by found.end
  where
    by : ((count ≡ length line) ⊎ (get_or line count 0 ≡ 32)) → ⊥
    by (inl last) = grind (arith, nat_tests, last, within)
    by (inr space) = other (here ∙ (get_or_default line count byte 0 (grind (arith, nat_tests, within)) ∙ space))

pub returns-in-Some-clause-spelled : goal.returns-in-Some-clause-spelled
returns-in-Some-clause-spelled c = λ n le low e.
    let line = c.words.inside.rest.now in
    let count = c.digits_at_front-count.result.0 in
    let value = c.digits_at_front-count.result.1 in
    let all = left_words c.words.inside.more line c.args.words.now (sym c.words.view_is) c.if-not-words.false in
    let told = c.digits_at_front-count.ensures in
    let found = front line count value told.within told.digits told.end told.value n low (sym (ap (λ ws. slice_index_or ws 0 []) all) ∙ e) in
    absurd (no_other line count c.in-Some.field-0.now n found c.in-Some.ensures.lookup.0 c.in-Some.ensures.lookup.1 c.in-Some.field-0-test.1)

pub returns-in-None-clause-spelled : goal.returns-in-None-clause-spelled
returns-in-None-clause-spelled c = λ n le low e.
    let line = c.words.inside.rest.now in
    let count = c.digits_at_front-count.result.0 in
    let value = c.digits_at_front-count.result.1 in
    let all = left_words c.words.inside.more line c.args.words.now (sym c.words.view_is) c.if-not-words.false in
    let told = c.digits_at_front-count.ensures in
    let found = front line count value told.within told.digits told.end told.value n low (sym (ap (λ ws. slice_index_or ws 0 []) all) ∙ e) in
    ap Some (value_is line count value told.within told.digits told.end told.value n low found.text)

pub returns-in-None-clause-only : goal.returns-in-None-clause-only
returns-in-None-clause-only c =
    let line = c.words.inside.rest.now in
    let count = c.digits_at_front-count.result.0 in
    let value = c.digits_at_front-count.result.1 in
    let all = left_words c.words.inside.more line c.args.words.now (sym c.words.view_is) c.if-not-words.false in
    let told = c.digits_at_front-count.ensures in
    let past : length line ≤ count = grind (arith, nat_tests, c.in-None.ensures.lookup) in
    let text = text_is line count value told.within told.digits told.end told.value (sym c.if-not-is_number_text.ensures) in
    (c.if-value-most.false, all ∙ (whole_line line count told.digits past ∙ ap (λ t. t ∷ []) text))

pub returns-in-Some-eq32-clause-spelled : goal.returns-in-Some-eq32-clause-spelled
returns-in-Some-eq32-clause-spelled c = λ n le low e.
    let line = c.words.inside.rest.now in
    let count = c.digits_at_front-count.result.0 in
    let value = c.digits_at_front-count.result.1 in
    let all = left_words c.words.inside.more line c.args.words.now (sym c.words.view_is) c.if-not-words.false in
    let told = c.digits_at_front-count.ensures in
    let found = front line count value told.within told.digits told.end told.value n low (sym (ap (λ ws. slice_index_or ws 0 []) all) ∙ e) in
    ap Some (value_is line count value told.within told.digits told.end told.value n low found.text)

pub returns-in-Some-eq32-clause-only : goal.returns-in-Some-eq32-clause-only
returns-in-Some-eq32-clause-only c =
    let line = c.words.inside.rest.now in
    let count = c.digits_at_front-count.result.0 in
    let value = c.digits_at_front-count.result.1 in
    let all = left_words c.words.inside.more line c.args.words.now (sym c.words.view_is) c.if-not-words.false in
    let told = c.digits_at_front-count.ensures in
    let within : count < length line = grind (arith, nat_tests, c.in-Some-eq32.ensures.lookup.0) in
    let space = get_or_default line count 0 c.in-Some-eq32.field-0.now within ∙ (sym c.in-Some-eq32.ensures.lookup.1 ∙ c.in-Some-eq32.field-0-test) in
    let text = text_is line count value told.within told.digits told.end told.value (sym c.if-not-is_number_text.ensures) in
    let cut = up_to_space line count told.digits within space in
    (c.if-value-most.false, rw (c.if-not-words.false, take_rest) (all ∙ (cut ∙ ap (λ t. t ∷ text_words (drop (count + 1) line)) text)))
