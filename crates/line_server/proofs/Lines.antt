-- What the place of the first newline says of the bytes.
use Rattle.std.proofs.Common.{◌≡◌, ◌≢◌, ◌≤◌, ◌<◌, ◌++◌, ◌∷◌, ◌∙◌, ℕ, suc, List, length, take, drop, sym, ap, subst, arith, Some}
use Rattle.std.proofs.Math.Seq.{split_at}
use Rattle.std.proofs.lemmas.List.{take-append-drop, take-append-le, length-take-le, take_all}
use Rattle.std.proofs.lemmas.Option.{get_or_from_slice_get}
use Rattle.std.proofs.lemmas.List.Elements.{All-take}
use Rattle.std.specs.Prelude.{slice_get}
use Rattle.line_server.specs.Line.{HasNoNewline, IsLine, IsPart, IsTooLong}

pub is_too_long : (bytes : List ℕ) (n : ℕ) → n ≤ length bytes → HasNoNewline (take n bytes) → 8192 ≤ n → IsTooLong bytes
is_too_long bytes n bound plain long =
    let count = length-take-le n bytes bound in
    let same : take 8192 bytes ≡ take 8192 (take n bytes) =
    ap (take 8192) (sym (take-append-drop n bytes)) ∙ take-append-le 8192 (take n bytes) (drop n bytes) (omega (arith, long, count)) in
    record {
      plain = subst HasNoNewline (sym same) (All-take (λ b. b ≢ 10) 8192 (take n bytes) plain);
      long = omega (arith, long, bound);
    }

pub is_part : (bytes : List ℕ) (n : ℕ) → HasNoNewline (take n bytes) → length bytes ≤ n → n < 8192 → IsPart bytes
is_part bytes n plain all less =
    record { plain = subst HasNoNewline (take_all n bytes all) plain; within = omega (arith, all, less) }

pub is_line : (bytes : List ℕ) (n : ℕ) → n < length bytes → HasNoNewline (take n bytes) → slice_get bytes n ≡ Some 10 → n < 8192
    → IsLine bytes (take n bytes) (drop (suc n) bytes)
is_line bytes n within plain newline less =
    record {
      bytes_are = split_at bytes n 10 within ∙ ap (λ b. take n bytes ++ b ∷ drop (suc n) bytes) (get_or_from_slice_get bytes n 10 10 newline);
      plain = plain;
      within = omega (arith, length-take-le n bytes (omega (arith, within)), less);
    }
