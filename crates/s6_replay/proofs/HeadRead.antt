-- Bytes that are read one at a time.
use Rattle.std.proofs.Common.{◌≡◌, ℕ, ◌+◌, ◌<◌, List, [], ◌∷◌, ◌++◌, zero, suc, length, take, get_or, refl, sym, ap, ◌∙◌, subst, arith, add-one}
use Rattle.std.specs.Prelude.{Option, Some, None}
use Rattle.std.specs.Io.KnownBytes.{Consumes, IsAtEnd}
use Rattle.std.proofs.KnownBytes.{Consumes-trans}
use Rattle.std.proofs.Math.Seq.{take-suc}
use Rattle.std.proofs.lemmas.List.{length-append, length-take-le}

-- one byte was taken from a buffer of one byte
pub one_byte : (bs : List ℕ) (n : ℕ) → length bs ≡ 1 → 0 < n → take n bs ≡ get_or bs 0 0 ∷ []
one_byte [] n e h = absurd (omega (arith, e))
one_byte (b ∷ []) zero e h = absurd (omega arith)
one_byte (b ∷ []) (suc zero) e h = refl
one_byte (b ∷ []) (suc (suc n)) e h = refl
one_byte (b ∷ d ∷ bs) n e h = absurd (omega (arith, e))

-- a reader that ended before the text was through did not begin with it
pub ended_early : (a b c : Option (List ℕ)) (k : ℕ) (text rest : List ℕ) → Consumes a b (take k text) → Consumes b c [] → IsAtEnd c
    → k < length text
    → a ≡ Some (text ++ rest) → ⊥
ended_early a b c k text rest p q end lt e =
    short c (subst (λ (known : Option (List ℕ)). Consumes known c (take k text ++ [])) e (Consumes-trans a b c _ _ p q)) end
  where
    short : (c : Option (List ℕ)) → Consumes (Some (text ++ rest)) c (take k text ++ []) → IsAtEnd c → ⊥
    short None p end = p
    short (Some ys) p end =
        omega (
          arith,
          ap length p,
          ap length end,
          length-append text rest,
          length-append (take k text ++ []) ys,
          length-append
              (take k text) [],
          length-take-le k text (omega arith),
        )

-- the byte at the place k of a list that begins with k bytes and that one
at_place : (front ys text rest : List ℕ) (b : ℕ) → text ++ rest ≡ (front ++ b ∷ []) ++ ys → length front < length text
    → b ≡ get_or text (length front) 0
at_place [] ys [] rest b e lt = absurd (omega arith)
at_place [] ys (t ∷ text) rest b e lt = cc
at_place (f ∷ front) ys [] rest b e lt = absurd (omega arith)
at_place (f ∷ front) ys (t ∷ text) rest b e lt =
    let tail : text ++ rest ≡ (front ++ b ∷ []) ++ ys = cc in
    at_place front ys text rest b tail (omega arith)

-- a reader that gave another byte than the text has there did not begin with it
pub differs : (a b c : Option (List ℕ)) (k byte : ℕ) (text rest : List ℕ) → Consumes a b (take k text) → Consumes b c (byte ∷ []) → k < length text
    → (byte ≡ get_or text k 0 → ⊥) → a ≡ Some (text ++ rest) → ⊥
differs a b c k byte text rest p q lt other e =
    other (here c (subst (λ (known : Option (List ℕ)). Consumes known c (take k text ++ byte ∷ [])) e (Consumes-trans a b c _ _ p q)))
  where
    here : (c : Option (List ℕ)) → Consumes (Some (text ++ rest)) c (take k text ++ byte ∷ []) → byte ≡ get_or text k 0
    here None p = absurd p
    here (Some ys) p =
        let long : length (take k text) ≡ k = length-take-le k text (omega arith) in
        let there : byte ≡ get_or text (length (take k text)) 0 = at_place (take k text) ys text rest byte p (omega arith) in
        there ∙ ap (λ n. get_or text n 0) long

-- one byte more of the text was read
pub read_more : (a b c : Option (List ℕ)) (k byte : ℕ) (text : List ℕ) → Consumes a b (take k text) → Consumes b c (byte ∷ []) → k < length text
    → byte ≡ get_or text k 0 → Consumes a c (take (k + 1) text)
read_more a b c k byte text p q lt same =
    let grown : take (k + 1) text ≡ take k text ++ byte ∷ [] =
    ap (λ n. take n text) (add-one k) ∙ take-suc text k 0 lt ∙ ap (λ x. take k text ++ x ∷ []) (sym same) in
    subst (Consumes a c) (sym grown) (Consumes-trans a b c _ _ p q)
