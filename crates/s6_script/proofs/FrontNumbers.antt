-- A number at the front of a line is its first word, where a space or the end of the line comes behind it.
use Rattle.std.proofs.Common.{◌≡◌, ◌∙◌, ℕ, ◌+◌, ◌-◌, ◌<◌, ◌≤◌, ◌^◌, zero, suc, List, [], ◌∷◌, ◌++◌, refl, ap, sym, subst, arith, append_assoc, drop, take, length}
use Rattle.std.proofs.Common.{get_or, take_all, take-append-drop, ◌⊎◌, inl, inr}
use Rattle.std.specs.Prelude.{All, Bool, true, false, ◌==◌, decimal, slice_index_or}
use Rattle.std.specs.List.{slice_split, list_all, onto_first}
use Rattle.std.proofs.lemmas.Bool.{false_from_ne_true, false≢true, and_parts}
use Rattle.std.proofs.lemmas.Bool.Decides.{nat_tests}
use Rattle.std.proofs.lemmas.List.{take_more, take-append-le, get_or-append_right}
use Rattle.std.proofs.lemmas.List.Elements.{All-from_get_or}
use Rattle.std.proofs.lemmas.List.Folds.{list_all_at}
use Rattle.std.proofs.lemmas.List.Splits.{slice_split_none, slice_split_at, slice_split-cons_yes, slice_split-cons_no, length-slice_split}
use Rattle.servicedir.specs.Number.{is_digit}
use Rattle.s6_script.specs.Verb.{text_words}
use Rattle.s6_script.proofs.Numbers.{digits_back}

-- no digit is a space
no_space : (digits : List ℕ) → list_all is_digit digits ≡ true → All (λ b. (b == 32) ≡ false) digits
no_space digits all = All-from_get_or (λ b. (b == 32) ≡ false) digits 0 (λ k lt.
    false_from_ne_true (get_or digits k 0 == 32) (λ e.
    let space : get_or digits k 0 ≡ 32 = grind (arith, nat_tests, e) in
    absurd (false≢true (sym (list_all_at is_digit digits k 0 lt (ap is_digit space)) ∙ all))))

module _ (line : List ℕ) (count : ℕ) (digits : list_all is_digit (take count line) ≡ true) where
  -- a line of digits is one word
  pub whole_line : length line ≤ count → text_words line ≡ take count line ∷ []
  whole_line end =
      let all : take count line ≡ line = take_all count line end in
      slice_split_none (λ b. b == 32) line (no_space line (subst (λ ds. list_all is_digit ds ≡ true) all digits)) ∙ ap (λ ds. ds ∷ []) (sym all)

  -- digits up to a space are its first word
  pub up_to_space : count < length line → get_or line count 0 ≡ 32 → text_words line ≡ take count line ∷ text_words (drop (count + 1) line)
  up_to_space within space =
      let front = take count line in
      let parts : line ≡ front ++ get_or line count 0 ∷ drop (count + 1) line =
      sym (take-append-drop (count + 1) line) ∙ (ap (λ t. t ++ drop (count + 1) line) (take_more line count 0 within)
      ∙ append_assoc front (get_or line count 0 ∷ []) (drop (count + 1) line)) in
      ap (slice_split (λ b. b == 32)) parts
      ∙ slice_split_at (λ b. b == 32) front (get_or line count 0) (drop (count + 1) line) (no_space front digits) (ap (λ b. b == 32) space)

-- a line is its first word, or has a space behind it
abbrev pub Begins : List ℕ → List ℕ → Type 0
Begins word line = (line ≡ word) ⊎ ((tail : List ℕ) × (line ≡ word ++ 32 ∷ tail))

first_onto : (b : ℕ) (words : List (List ℕ)) → 0 < length words → slice_index_or (onto_first b words) 0 [] ≡ b ∷ slice_index_or words 0 []
first_onto b [] some = absurd (omega (arith, some))
first_onto b (word ∷ words) some = refl

first_begins : (line : List ℕ) → Begins (slice_index_or (text_words line) 0 []) line
first_begins [] = inl refl
first_begins (b ∷ line) = by (b == 32) refl (first_begins line)
  where
    more : Begins (slice_index_or (text_words line) 0 []) line → Begins (b ∷ slice_index_or (text_words line) 0 []) (b ∷ line)
    more (inl same) = inl (ap (λ l. b ∷ l) same)
    more (inr found) = inr (found.0, ap (λ l. b ∷ l) found.1)

    by : (v : Bool) → (b == 32) ≡ v → Begins (slice_index_or (text_words line) 0 []) line
        → Begins (slice_index_or (text_words (b ∷ line)) 0 []) (b ∷ line)
    by true e rest =
        let words = slice_split-cons_yes (λ c. c == 32) b line e in
        let space : b ≡ 32 = grind (arith, nat_tests, e) in
        subst (λ ws. Begins (slice_index_or ws 0 []) (b ∷ line)) (sym words) (inr (line, ap (λ c. c ∷ line) space))
    by false e rest =
        let words = slice_split-cons_no (λ c. c == 32) b line e in
        let some : 0 < length (text_words line) = omega (arith, length-slice_split (λ c. c == 32) line) in
        let first = ap (λ ws. slice_index_or ws 0 []) words ∙ first_onto b (text_words line) some in
        subst (λ w. Begins w (b ∷ line)) (sym first) (more rest)

-- the digits at the front of digits, as many as there are
all_of_digits : (word : List ℕ) (count : ℕ) → list_all is_digit word ≡ true → count ≤ length word
    → (count < length word → is_digit (get_or word count 0) ≡ false) → count ≡ length word
all_of_digits [] count digits within end = omega (arith, within)
all_of_digits (d ∷ word) zero digits within end =
    absurd (false≢true (sym (end (omega arith)) ∙ (and_parts (is_digit d) (list_all is_digit word) digits).0))
all_of_digits (d ∷ word) (suc count) digits within end =
    ap suc (all_of_digits word count (and_parts (is_digit d) (list_all is_digit word) digits).1 (omega (arith, within))
    (λ lt. end (omega (arith, lt))))

up_to_gap : (word tail : List ℕ) (count : ℕ) → list_all is_digit word ≡ true → list_all is_digit (take count (word ++ 32 ∷ tail)) ≡ true
    → (count < length (word ++ 32 ∷ tail) → is_digit (get_or (word ++ 32 ∷ tail) count 0) ≡ false) → count ≡ length word
up_to_gap [] tail zero digits front end = refl
up_to_gap [] tail (suc count) digits front end = absurd (false≢true front)
up_to_gap (d ∷ word) tail zero digits front end =
    absurd (false≢true (sym (end (omega arith)) ∙ (and_parts (is_digit d) (list_all is_digit word) digits).0))
up_to_gap (d ∷ word) tail (suc count) digits front end =
    ap suc (up_to_gap word tail count (and_parts (is_digit d) (list_all is_digit word) digits).1
    (and_parts (is_digit d) (list_all is_digit (take count (word ++ 32 ∷ tail))) front).1 (λ lt. end (omega (arith, lt))))

-- the digits at the front of a line spell this number, and the line ends there, or a space comes
pub record IsFront (line : List ℕ) (count n : ℕ) : Type 0 where
  pub text : take count line ≡ decimal n
  pub end : (count ≡ length line) ⊎ (get_or line count 0 ≡ 32)

front_of : (line : List ℕ) (count n : ℕ) → n < 2 ^ 64 → Begins (decimal n) line → count ≤ length line → list_all is_digit (take count line) ≡ true
    → (count < length line → is_digit (get_or line count 0) ≡ false) → IsFront line count n
front_of line count n small (inl same) within front end =
    let digits = (digits_back n (decimal n) small refl).0 in
    let long : length line ≡ length (decimal n) = ap length same in
    let all : count ≡ length (decimal n) =
    all_of_digits (decimal n) count digits (omega (arith, within, long))
    (subst (λ (l : List ℕ). count < length l → is_digit (get_or l count 0) ≡ false) same end) in
    record { text = take_all count line (omega (arith, all, long)) ∙ same; end = inl (omega (arith, all, long)) }
front_of line count n small (inr found) within front end =
    let word = decimal n in
    let digits = (digits_back n word small refl).0 in
    let cut : count ≡ length word =
    up_to_gap word found.0 count digits (subst (λ (l : List ℕ). list_all is_digit (take count l) ≡ true) found.1 front)
    (subst (λ (l : List ℕ). count < length l → is_digit (get_or l count 0) ≡ false) found.1 end) in
    let gap : length word - length word ≡ 0 = omega arith in
    record {
      text = ap (λ k. take k line) cut
          ∙ (ap (take (length word)) found.1
          ∙ (take-append-le (length word) word (32 ∷ found.0) (omega arith) ∙ take_all (length word) word (omega arith)));
      end = inr (ap (λ k. get_or line k 0) cut
          ∙ (ap (λ l. get_or l (length word) 0) found.1
          ∙ (get_or-append_right word (32 ∷ found.0) (length word) (length word) 0 refl (omega arith) ∙ ap (λ k. get_or (32 ∷ found.0) k 0) gap)));
    }

-- where the first word spells a number, the digits at the front of the line are that word
pub first_is_front : (line : List ℕ) (count n : ℕ) → n < 2 ^ 64 → slice_index_or (text_words line) 0 [] ≡ decimal n → count ≤ length line
    → list_all is_digit (take count line) ≡ true → (count < length line → is_digit (get_or line count 0) ≡ false) → IsFront line count n
first_is_front line count n small first within front end =
    front_of line count n small (subst (λ w. Begins w line) first (first_begins line)) within front end
