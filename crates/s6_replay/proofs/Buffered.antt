-- What a buffer shows of a line, up to its newline.
use Rattle.std.proofs.Common.{◌≡◌, ℕ, ◌+◌, ◌<◌, ◌≤◌, List, [], ◌∷◌, ◌++◌, true, length, take, slice_index, is_some, sym, ap, subst, ◌∙◌, arith}
use Rattle.std.proofs.Common.{get_or-take, length-take-le, append_assoc}
use Rattle.std.specs.Prelude.{Option, Some, None}
use Rattle.std.specs.Option.{unwrap_or}
use Rattle.std.specs.Io.KnownBytes.{Consumes}
use Rattle.std.proofs.KnownBytes.{Consumes-trans}
use Rattle.std.proofs.lemmas.Bool.{eq-eqb, eqb-true, false≢true}
use Rattle.std.proofs.lemmas.List.{take_more}
use Rattle.std.proofs.lemmas.List.Elements.{All-from_get_or}
use Rattle.memchr.specs.Find.{IsFirstByte, Passes, is_byte}
use Rattle.s6_replay.specs.Lines.{HasNoNewline}

module _ (bs : List ℕ) where
  plain_upto : (n : ℕ) → n ≤ length bs → ((k : ℕ) → k < n → Passes (is_byte 10) bs k → ⊥) → HasNoNewline (take n bs)
  plain_upto n within none =
      let long : length (take n bs) ≡ n = length-take-le n bs within in
      All-from_get_or (λ b. b ≡ 10 → ⊥) (take n bs) 0 (λ k lt is.
      let below : k < n = omega (arith, long) in
      none k below (eq-eqb (slice_index bs k) 10 (sym (get_or-take n bs k 0 below) ∙ is)))

  -- the search ends at the first newline, or at the end where there is none
  pub end_within : (r : Option ℕ) (end : ℕ) → IsFirstByte (is_byte 10) bs r → end ≡ unwrap_or r (length bs) → end ≤ length bs
  end_within None end none e = omega (arith, e)
  end_within (Some k) end found e = omega (arith, e, found.0.high)

  -- what stands before it
  pub plain_before : (r : Option ℕ) (end : ℕ) → IsFirstByte (is_byte 10) bs r → end ≡ unwrap_or r (length bs) → HasNoNewline (take end bs)
  plain_before None end none e = plain_upto end (omega (arith, e)) (λ i lt. none i (omega arith) (omega (arith, e)))
  plain_before (Some k) end found e = plain_upto end (omega (arith, e, found.0.high)) (λ i lt. found.0.before i (omega arith) (omega (arith, e)))

  -- a newline that was found comes next
  pub end_before : (r : Option ℕ) (end : ℕ) → IsFirstByte (is_byte 10) bs r → is_some r ≡ true → end ≡ unwrap_or r (length bs) → end < length bs
  end_before None end none is e = absurd (false≢true is)
  end_before (Some k) end found is e = omega (arith, e, found.0.high)

  pub with_newline : (r : Option ℕ) (end : ℕ) → IsFirstByte (is_byte 10) bs r → is_some r ≡ true → end ≡ unwrap_or r (length bs)
      → take (end + 1) bs ≡ take end bs ++ 10 ∷ []
  with_newline None end none is e = absurd (false≢true is)
  with_newline (Some k) end found is e =
      subst (λ (n : ℕ). take (n + 1) bs ≡ take n bs ++ 10 ∷ []) (sym e)
      (take_more bs k 0 found.0.high ∙ ap (λ b. take k bs ++ b ∷ []) (eqb-true (slice_index bs k) 10 found.1))

module _ (start a b : Option (List ℕ)) (line part new : List ℕ) where
  -- the line grew by what was consumed
  pub reads_on : Consumes start a line → Consumes a b part → new ≡ line ++ part → Consumes start b new
  reads_on p q e = subst (Consumes start b) (sym e) (Consumes-trans start a b line part p q)

  -- and its newline was consumed with it
  pub reads_newline : Consumes start a line → Consumes a b (part ++ 10 ∷ []) → new ≡ line ++ part → Consumes start b (new ++ 10 ∷ [])
  reads_newline p q e =
      subst (Consumes start b) (sym (ap (λ l. l ++ 10 ∷ []) e ∙ append_assoc line part (10 ∷ [])))
      (Consumes-trans start a b line (part ++ 10 ∷ []) p q)
