-- One more word, of words that are read in their order.
use Rattle.std.proofs.Common.{◌≡◌, ◌<◌, ◌+◌, ◌++◌, ℕ, List, [], ◌∷◌, Bor, map, length, take, drop, get_or, flat_map, filter, not, ap, refl, sym}
use Rattle.std.proofs.Common.{◌∙◌, add-one, drop-cons}
use Rattle.std.proofs.Math.ListN.{get_or-map}
use Rattle.std.proofs.lemmas.List.{length-map, take_more}
use Rattle.std.proofs.lemmas.List.Concat.{flat_map-append}
use Rattle.std.proofs.lemmas.List.Elements.{filter-append}
use Rattle.svc_commands.specs.LetterWords.{letters_in, names_in, is_run}

-- the word at this place, as a text
pub record IsWordAt (words : List (Bor (List ℕ))) (i : ℕ) (word : List ℕ) : Type 0 where
  pub within : i < length words
  pub is : word ≡ (get_or words i (record { ref_ptr = (0, 0); now = [] })).now

-- the words, as texts
abbrev pub texts_of : List (Bor (List ℕ)) → List (List ℕ)
texts_of words = map (λ w. w.now) words

pub is_text : (words : List (Bor (List ℕ))) (i : ℕ) (word : List ℕ) → IsWordAt words i word → get_or (texts_of words) i [] ≡ word
is_text words i word at = get_or-map (λ (w : Bor (List ℕ)). w.now) words i (record { ref_ptr = (0, 0); now = [] }) ∙ sym at.is

pub length_texts : (words : List (Bor (List ℕ))) → length (texts_of words) ≡ length words
length_texts words = rw length-map refl

pub within_texts : (words : List (Bor (List ℕ))) (i : ℕ) → i < length words → i < length (texts_of words)
within_texts words i h = rw length-map h

-- the words from this one on
pub from_word : (words : List (Bor (List ℕ))) (i : ℕ) (word : List ℕ) → IsWordAt words i word
    → drop i (texts_of words) ≡ word ∷ drop (i + 1) (texts_of words)
from_word words i word at =
    let h : i < length (texts_of words) = within_texts words i at.within in
    let next : drop i (texts_of words) ≡ get_or (texts_of words) i [] ∷ drop (i + 1) (texts_of words) =
    rw (add-one, drop-cons (texts_of words) i []) refl in
    next ∙ ap (λ w. w ∷ drop (i + 1) (texts_of words)) (is_text words i word at)

-- the words up to this one
pub to_word : (words : List (Bor (List ℕ))) (i : ℕ) (word : List ℕ) → IsWordAt words i word
    → take (i + 1) (texts_of words) ≡ take i (texts_of words) ++ word ∷ []
to_word words i word at =
    take_more (texts_of words) i [] (within_texts words i at.within)
    ∙ ap (λ w. take i (texts_of words) ++ w ∷ []) (is_text words i word at)

-- the letters of the words up to this one
pub letters_next : {L : Type 0} (meaning : ℕ → List L) (words : List (Bor (List ℕ))) (i : ℕ) (word : List ℕ) (old new : List L)
    → IsWordAt words i word → letters_in meaning (take i (texts_of words)) ≡ old → new ≡ old ++ letters_in meaning (word ∷ [])
    → letters_in meaning (take (i + 1) (texts_of words)) ≡ new
letters_next {L} meaning words i word old new at before is =
    let letters_of : List ℕ → List L = λ w. flat_map meaning (drop 1 w) in
    ap (letters_in meaning) (to_word words i word at)
    ∙ ap (flat_map letters_of) (filter-append is_run (take i (texts_of words)) (word ∷ []))
    ∙ flat_map-append letters_of (filter is_run (take i (texts_of words))) (filter is_run (word ∷ []))
    ∙ ap (λ ls. ls ++ letters_in meaning (word ∷ [])) before ∙ sym is

-- the names among them
pub names_next : (words : List (Bor (List ℕ))) (i : ℕ) (word : List ℕ) (old new : List (List ℕ)) → IsWordAt words i word
    → names_in (take i (texts_of words)) ≡ old → new ≡ old ++ names_in (word ∷ []) → names_in (take (i + 1) (texts_of words)) ≡ new
names_next words i word old new at before is =
    ap names_in (to_word words i word at) ∙ filter-append (λ w. not (is_run w)) (take i (texts_of words)) (word ∷ [])
    ∙ ap (λ ns. ns ++ names_in (word ∷ [])) before ∙ sym is
