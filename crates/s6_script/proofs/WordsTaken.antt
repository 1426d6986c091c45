-- Words are taken from a line, one after the other.
use Rattle.std.proofs.Common.{◌≡◌, ◌∙◌, ℕ, ◌+◌, ◌<◌, ◌≤◌, zero, suc, List, [], ◌∷◌, ◌++◌, refl, ap, sym, subst, arith, append_assoc, drop, take}
use Rattle.std.proofs.Common.{length, get_or-take, slice_index, length-take-le}
use Rattle.std.specs.Prelude.{All, Bool, true, false, ◌==◌, Some, None, nat_lt, slice_index_or, if◌then◌else◌}
use Rattle.std.specs.List.{slice_split, join_with_byte}
use Rattle.std.proofs.lemmas.Bool.{false_from_ne_true, false≢true}
use Rattle.std.proofs.lemmas.Bool.Decides.{nat_tests}
use Rattle.std.proofs.lemmas.List.{take_all, take_more, take-append-drop}
use Rattle.std.proofs.lemmas.List.Elements.{All-from_get_or}
use Rattle.std.proofs.lemmas.List.Splits.{slice_split_none, slice_split_at, length-slice_split, join_with_byte-slice_split}
use Rattle.memchr.specs.Find.{IsFirstByte, Passes, is_byte}
use Rattle.s6_script.specs.Verb.{text_words}

-- the word at a place comes first behind so many
at_drop : (n : ℕ) (texts : List (List ℕ)) → slice_index_or (drop n texts) 0 [] ≡ slice_index_or texts n []
at_drop zero texts = refl
at_drop (suc n) [] = refl
at_drop (suc n) (text ∷ texts) = at_drop n texts

drop_next : (n : ℕ) (texts : List (List ℕ)) → drop 1 (drop n texts) ≡ drop (suc n) texts
drop_next zero texts = refl
drop_next (suc n) [] = refl
drop_next (suc n) (text ∷ texts) = drop_next n texts

-- where so many words were taken, the next is the one at that place
pub next_word : (n : ℕ) (texts left : List (List ℕ)) (word : List ℕ) → left ≡ drop n texts → word ≡ slice_index_or left 0 []
    → word ≡ slice_index_or texts n []
next_word n texts left word taken first = first ∙ (ap (λ ws. slice_index_or ws 0 []) taken ∙ at_drop n texts)

pub one_taken : (n : ℕ) (texts left left' : List (List ℕ)) → left ≡ drop n texts → left' ≡ drop 1 left → left' ≡ drop (suc n) texts
one_taken n texts left left' taken next = next ∙ (ap (drop 1) taken ∙ drop_next n texts)

-- a text has a word
pub some_word : (text : List ℕ) → nat_lt 0 (length (text_words text)) ≡ true
some_word text =
    let long = length-slice_split (λ b. b == 32) text in
    grind (arith, nat_tests)

module _ (line : List ℕ) where
  no_space_upto : (n : ℕ) → n ≤ length line → ((k : ℕ) → k < n → Passes (is_byte 32) line k → ⊥) → All (λ b. (b == 32) ≡ false) (take n line)
  no_space_upto n within none =
      let long : length (take n line) ≡ n = length-take-le n line within in
      All-from_get_or (λ b. (b == 32) ≡ false) (take n line) 0 (λ k lt.
      let below : k < n = omega (arith, long) in
      ap (λ b. b == 32) (get_or-take n line k 0 below) ∙ false_from_ne_true (slice_index line k == 32) (none k below))

  -- the line is cut at its first space, or is one word
  pub cut_none : IsFirstByte (is_byte 32) line None → text_words line ≡ line ∷ []
  cut_none none =
      let all : take (length line) line ≡ line = take_all (length line) line (omega arith) in
      slice_split_none (λ b. b == 32) line (subst (All (λ b. (b == 32) ≡ false)) all
      (no_space_upto (length line) (omega arith) (λ k lt. none k (omega arith) lt)))

  pub cut_some : (k : ℕ) → IsFirstByte (is_byte 32) line (Some k) → text_words line ≡ take k line ∷ text_words (drop (k + 1) line)
  cut_some k found =
      let front = take k line in
      let parts : line ≡ front ++ slice_index line k ∷ drop (k + 1) line =
      sym (take-append-drop (k + 1) line) ∙ (ap (λ t. t ++ drop (k + 1) line) (take_more line k 0 found.0.high)
      ∙ append_assoc front (slice_index line k ∷ []) (drop (k + 1) line)) in
      ap (slice_split (λ b. b == 32)) parts
      ∙ slice_split_at (λ b. b == 32) front (slice_index line k) (drop (k + 1) line)
      (no_space_upto k (omega (arith, found.0.high)) (λ i lt. found.0.before i (omega arith) lt)) found.1

-- a word is left until the last one was taken
pub more_words : (more : Bool) (rest : List ℕ) (words : List (List ℕ)) → words ≡ (if more then text_words rest else [])
    → more ≡ nat_lt 0 (length words)
more_words true rest words e = sym (ap (λ ws. nat_lt 0 (length ws)) e ∙ some_word rest)
more_words false rest words e = sym (ap (λ ws. nat_lt 0 (length ws)) e)

-- what is left while a word is left
pub left_words : (more : Bool) (rest : List ℕ) (words : List (List ℕ)) → words ≡ (if more then text_words rest else []) → more ≡ true
    → words ≡ text_words rest
left_words true rest words e go = e
left_words false rest words e go = absurd (false≢true go)

module _ (more : Bool) (rest : List ℕ) (words : List (List ℕ)) (e : words ≡ (if more then text_words rest else [])) (go : more ≡ true) where
  pub last_word : IsFirstByte (is_byte 32) rest None → words ≡ rest ∷ []
  last_word none = left_words more rest words e go ∙ cut_none rest none

  pub word_before : (k : ℕ) → IsFirstByte (is_byte 32) rest (Some k) → words ≡ take k rest ∷ text_words (drop (k + 1) rest)
  word_before k found = left_words more rest words e go ∙ cut_some rest k found

  pub rest_joined : join_with_byte 32 words ≡ rest
  rest_joined = ap (join_with_byte 32) (left_words more rest words e go) ∙ join_with_byte-slice_split 32 rest
