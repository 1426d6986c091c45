-- A test of the text behind a reference, and the same test of the texts.
use Rattle.std.proofs.Common.{◌≡◌, ◌+◌, ℕ, List, [], ◌∷◌, Bool, true, false, Some, None, Bor, length, map, ap, ap₂, refl, sym, cond, not, nat_lt}
use Rattle.std.proofs.lemmas.List.{length-map}
use Rattle.std.specs.Option.{option_map}
use Rattle.std.specs.List.{find, position, prefix_len}

abbrev pub texts_of : List (Bor (List ℕ)) → List (List ℕ)
texts_of words = map (λ w. w.now) words

pub find_text : (p : List ℕ → Bool) (words : List (Bor (List ℕ)))
    → option_map (λ w. w.now) (find (λ w. p w.now) words) ≡ find p (texts_of words)
find_text p [] = refl
find_text p (w ∷ ws) = by (p w.now) (find_text p ws)
  where
    by : (b : Bool) → option_map (λ w. w.now) (find (λ w. p w.now) ws) ≡ find p (texts_of ws)
        → option_map (λ w. w.now) (cond b (Some w) (find (λ w. p w.now) ws)) ≡ cond b (Some w.now) (find p (texts_of ws))
    by true later = refl
    by false later = later

same_prefix : (p : List ℕ → Bool) (words : List (Bor (List ℕ))) → prefix_len (λ w. p w.now) words ≡ prefix_len p (texts_of words)
same_prefix p [] = refl
same_prefix p (w ∷ ws) = ap (λ n. cond (p w.now) (1 + n) 0) (same_prefix p ws)

length_texts : (words : List (Bor (List ℕ))) → length (texts_of words) ≡ length words
length_texts words = rw length-map refl

pub same_place : (p : List ℕ → Bool) (words : List (Bor (List ℕ))) → position (λ w. p w.now) words ≡ position p (texts_of words)
same_place p words =
    ap₂ (λ n m. cond (nat_lt n m) (Some n) None) (same_prefix (λ w. not (p w)) words) (sym (length_texts words))
