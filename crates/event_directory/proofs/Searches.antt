-- A search among the bytes of letters finds what the pattern's text finds in them.
use Rattle.std.proofs.Common.{◌≡◌, refl, ℕ, ◌<◌, List, All, Bool, true, false, Option, None, Some, length, subst, sym, ap, ◌∙◌, arith, get_or}
use Rattle.std.proofs.lemmas.Bool.Decides.{nat_tests}
use Rattle.std.proofs.lemmas.Option.{same_Some, slice_get_within, slice_get-get_or}
use Rattle.std.specs.Int.{is_in_range}
use Rattle.std.specs.Prelude.{slice_get, if◌then◌else◌, is_some, not}
use Rattle.regex_hir.specs.Re.{accept, attempt}
use Rattle.regex_hir.specs.Text.{is_boundary, is_none_or}
use Rattle.regex_hir.specs.Find.{find, find_str}
use Rattle.regex_hir.proofs.FindLemmas.{first_between_cong}
use Rattle.text_matcher.specs.Expression.{expression_of, has_match}
use Rattle.event_directory.specs.Pattern.{finds}

small_byte : (b : ℕ) → b < 128 → is_in_range 0x80 0xBF b ≡ false
small_byte b small = grind (arith, nat_tests)

before_small : (o : Option ℕ) → ((b : ℕ) → o ≡ Some b → b < 128) → is_none_or o (λ b. not (is_in_range 0x80 0xBF b)) ≡ true
before_small None small = refl
before_small (Some b) small = ap not (small_byte b (small b refl))

-- each place among bytes below 128 is one between two characters
at_boundary : (hay : List ℕ) → All (λ b. b < 128) hay → (i : ℕ) → is_boundary hay i ≡ true
unfolding is_boundary
at_boundary hay small i = before_small (slice_get hay i) (λ b e.
    let within : i < length hay = slice_get_within hay i b e in
    let here : get_or hay i 0 ≡ b = same_Some _ _ (sym (slice_get-get_or hay i 0 within) ∙ e) in
    subst (λ n. n < 128) here (small i 0 within))

pub found_among_letters : (text hay : List ℕ) → All (λ b. b < 128) hay → has_match text hay ≡ finds text hay
unfolding has_match finds find find_str
found_among_letters text hay small =
    ap is_some (sym (first_between_cong _ _ 0 (length hay)
    (λ i _ _. ap (λ b. if b then attempt hay (expression_of text) accept i else None) (at_boundary hay small i))))
