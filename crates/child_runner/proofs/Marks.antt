-- Where the mark of an end may begin: only at the last zero byte.
use Rattle.std.proofs.Common.{◌≡◌, ◌≤◌, ◌<◌, ℕ, zero, suc, ◌+◌, ◌-◌, Bool, not, ◌==◌, List, length, take, drop, codes, slice_index, eqb, IsTrue}
use Rattle.std.proofs.Common.{refl, sym, ap, subst, ◌∙◌, arith, ⊎_elim}
use Rattle.std.specs.List.{AllPass}
use Rattle.std.specs.Cmp.Lexicographic.{pointwise}
use Rattle.std.proofs.Math.ListN.{get_or, get_or-append}
use Rattle.std.proofs.lemmas.Bool.{cases_lt, eqb-true, false≢true}
use Rattle.std.proofs.lemmas.Bool.Decides.{Decides-eqb}
use Rattle.std.proofs.lemmas.List.{get_or-drop, length-drop, take_all}
use Rattle.std.proofs.lemmas.List.Sums.{AllPass-from_list_all}
use Rattle.std.proofs.lemmas.Slice.Eq.{starts_is}
use Rattle.memchr.specs.Find.{Nowhere, NoneAfter, Passes, is_byte}
use Rattle.child_runner.specs.EndMark.{end_mark, BeginsMark}

pub begins : (bytes : List ℕ) (r : Bool) → length bytes < 16 → r ≡ pointwise eqb bytes (take (length bytes) end_mark)
    → (IsTrue r → BeginsMark bytes) × (BeginsMark bytes → IsTrue r)
begins bytes r short value =
    let s = starts_is Decides-eqb end_mark bytes r value in
    ((λ is. (short, s.0 is)), λ b. s.1 _ b.1)

is_letter : ℕ → Bool
is_letter b = not (b == 0)

letters : AllPass is_letter (codes "child-has-ended")
unfolding is_letter
letters = AllPass-from_list_all is_letter (codes "child-has-ended") refl

no_zero : (j : ℕ) → 0 < j → j < 16 → get_or end_mark j 0 ≡ 0 → ⊥
unfolding is_letter
no_zero zero low below is = omega arith
no_zero (suc j) low below is = false≢true (sym (ap is_letter is) ∙ letters j 0 (omega arith))

-- what stands at a place behind a beginning of the mark
at_of : (bytes : List ℕ) (k i : ℕ) → k ≤ i → i < length bytes → BeginsMark (drop k bytes) → slice_index bytes i ≡ slice_index end_mark (i - k)
at_of bytes k i low below b =
    let n = length-drop k bytes in
    let there : i ≡ k + (i - k) = omega arith in
    ap (λ p. slice_index bytes p) there ∙ sym (get_or-drop k bytes (i - k) 0)
    ∙ sym (get_or-append (drop k bytes) (drop (length (drop k bytes)) end_mark) 0 (i - k) (omega (arith, n)))
    ∙ ap (λ l. slice_index l (i - k)) (sym b.1)

zero_at : (bytes : List ℕ) (k : ℕ) → k < length bytes → BeginsMark (drop k bytes) → Passes (is_byte 0) bytes k
zero_at bytes k below b =
    let here : k - k ≡ 0 = omega arith in
    ap (is_byte 0) (at_of bytes k k (omega arith) below b ∙ ap (λ j. slice_index end_mark j) here)

within : (bytes : List ℕ) (k i : ℕ) → k ≤ i → i < length bytes → BeginsMark (drop k bytes) → i - k < 16
within bytes k i low below b = let n = length-drop k bytes in let short = b.0 in omega (arith, n, short)

-- without a zero byte the mark begins nowhere
pub first_none : (bytes : List ℕ) → Nowhere (Passes (is_byte 0) bytes) 0 (length bytes)
    → (k : ℕ) → k ≤ length bytes → BeginsMark (drop k bytes) → length bytes ≤ k
first_none bytes none k low b = ⊎_elim (λ below. absurd (none k (omega arith) below (zero_at bytes k below b))) (λ le. le)
    (cases_lt k (length bytes))

-- it begins at the last zero byte, or not before the end
same_place : (bytes : List ℕ) (place : ℕ) → NoneAfter (Passes (is_byte 0) bytes) 0 (length bytes) place × Passes (is_byte 0) bytes place
    → (k : ℕ) → k < length bytes → BeginsMark (drop k bytes) → k ≡ place
same_place bytes place at k below b =
    let zero : slice_index bytes place ≡ 0 = eqb-true (slice_index bytes place) 0 at.1 in
    ⊎_elim
    (λ after. absurd (at.0.after k (omega arith) below (zero_at bytes k below b)))
    (λ le. ⊎_elim
    (λ before. absurd (no_zero (place - k) (omega arith) (within bytes k place (omega arith) at.0.high b)
    (sym (at_of bytes k place (omega arith) at.0.high b) ∙ zero)))
    (λ ge. omega arith)
    (cases_lt k place))
    (cases_lt place k)

pub first_some : (bytes : List ℕ) (place : ℕ) → NoneAfter (Passes (is_byte 0) bytes) 0 (length bytes) place × Passes (is_byte 0) bytes place
    → (k : ℕ) → k ≤ length bytes → BeginsMark (drop k bytes) → place ≤ k
first_some bytes place at k low b =
    let high = at.0.high in
    ⊎_elim
    (λ below. let same = same_place bytes place at k below b in omega (arith, same))
    (λ ge. omega (arith, high))
    (cases_lt k (length bytes))

pub first_end : (bytes : List ℕ) (place : ℕ) → NoneAfter (Passes (is_byte 0) bytes) 0 (length bytes) place × Passes (is_byte 0) bytes place
    → (BeginsMark (drop place bytes) → ⊥)
    → (k : ℕ) → k ≤ length bytes → BeginsMark (drop k bytes) → length bytes ≤ k
first_end bytes place at other k low b = ⊎_elim
    (λ below. absurd (other (subst (λ p. BeginsMark (drop p bytes)) (same_place bytes place at k below b) b)))
    (λ ge. ge)
    (cases_lt k (length bytes))

-- the slice from a place on, as the code takes it
pub rest_begins : (bytes : List ℕ) (place : ℕ) → BeginsMark (drop place bytes)
    → BeginsMark (take (length bytes - place) (drop place bytes))
rest_begins bytes place b =
    let n = length-drop place bytes in
    subst (λ l. BeginsMark l) (sym (take_all (length bytes - place) (drop place bytes) (omega (arith, n)))) b
