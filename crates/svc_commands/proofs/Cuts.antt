-- Where the words of svlisten are cut, and what stands on either side.
use Rattle.std.proofs.Common.{◌≡◌, ◌≤◌, ◌+◌, ◌-◌, ◌∙◌, ℕ, List, [], ◌∷◌, Bool, Some, None, Bor, length, take, drop, ap, ap₂, refl, sym, arith}
use Rattle.std.proofs.Common.{codes, cond, not, nat_lt}
use Rattle.std.proofs.lemmas.List.{take-map, drop-map, take_all, drop_all, length-drop}
use Rattle.std.specs.Option.{unwrap_or}
use Rattle.std.specs.List.{position, prefix_len}
use Rattle.std.specs.Str.{bytes_eq}
use Rattle.svc_commands.specs.Matches.{cut_of, own_words, program_words}
use Rattle.svc_commands.proofs.Words.{texts_of, length_texts}

same_prefix : (p : List ℕ → Bool) (words : List (Bor (List ℕ))) → prefix_len (λ w. p w.now) words ≡ prefix_len p (texts_of words)
same_prefix p [] = refl
same_prefix p (w ∷ ws) = ap (λ n. cond (p w.now) (1 + n) 0) (same_prefix p ws)

-- a test of the text behind a reference finds the place that it finds among the texts
same_place : (p : List ℕ → Bool) (words : List (Bor (List ℕ))) → position (λ w. p w.now) words ≡ position p (texts_of words)
same_place p words = ap₂ (λ n m. cond (nat_lt n m) (Some n) None) (same_prefix (λ w. not (p w)) words) (sym (length_texts words))

-- the place among the words
abbrev pub cut_in : List (Bor (List ℕ)) → ℕ
cut_in words = unwrap_or (position (λ w. bytes_eq w.now (codes "--")) words) (length words)

pub cut_is : (words : List (Bor (List ℕ))) → cut_in words ≡ cut_of (texts_of words)
cut_is words = ap₂ unwrap_or (same_place (λ w. bytes_eq w (codes "--")) words) (sym (length_texts words))

pub own_is : (words : List (Bor (List ℕ))) (at : ℕ) → at ≡ cut_in words → texts_of (take at words) ≡ own_words (texts_of words)
own_is words at e = sym (take-map (λ (w : Bor (List ℕ)). w.now) at words) ∙ ap (λ k. take k (texts_of words)) (e ∙ cut_is words)

pub program_is : (words : List (Bor (List ℕ))) (at : ℕ) → at ≡ cut_in words
    → texts_of (take (length words - (at + 1)) (drop (at + 1) words)) ≡ program_words (texts_of words)
program_is words at e =
    ap texts_of (take_all (length words - (at + 1)) (drop (at + 1) words) (omega (arith, length-drop (at + 1) words)))
    ∙ sym (drop-map (λ (w : Bor (List ℕ)). w.now) (at + 1) words) ∙ ap (λ k. drop (k + 1) (texts_of words)) (e ∙ cut_is words)

-- where there is no cut, no word stands behind it
pub program_none : (words : List (Bor (List ℕ))) (at : ℕ) → at ≡ cut_in words → length words ≤ at
    → texts_of (take (length words - at) (drop at words)) ≡ program_words (texts_of words)
program_none words at e h =
    let none : drop at words ≡ [] = drop_all at words h in
    let less : length (texts_of words) ≤ at + 1 = rw (length_texts words) (omega (arith, h)) in
    ap (λ ws. texts_of (take (length words - at) ws)) none ∙ ap texts_of (take_all (length words - at) [] (omega arith))
    ∙ sym (drop_all (at + 1) (texts_of words) less) ∙ ap (λ k. drop (k + 1) (texts_of words)) (e ∙ cut_is words)
