-- Digits and names have no space, no colon, no comma and no exclamation mark.
use Rattle.std.proofs.Common.{◌≡◌, ℕ, ◌+◌, ◌%◌, ◌^◌, ◌<◌, List, [], ◌∷◌, refl, ◌∙◌, arith}
use Rattle.std.specs.Prelude.{Bool, true, not, ◌&&◌, ◌==◌, decimal}
use Rattle.std.specs.List.{list_all}
use Rattle.std.proofs.lemmas.Bool.{and_parts}
use Rattle.std.proofs.lemmas.Bool.Decides.{nat_tests}
use Rattle.std.proofs.lemmas.Fmt.{decimal_by_steps}
use Rattle.std.proofs.lemmas.List.Folds.{list_all-append}
use Rattle.s6_events.specs.Name.{is_name, is_name_byte}
use Rattle.s6_script.specs.Options.{ends_part}
use Rattle.s6_script.proofs.Joined.{is_no_space, has_no_space, lacks}

-- the byte is no exclamation mark
abbrev pub is_no_mark : ℕ → Bool
is_no_mark b = not (b == 33)

-- the byte is no space, no colon, no comma and no exclamation mark
abbrev pub is_plain_byte : ℕ → Bool
is_plain_byte b = (is_no_space b && is_no_mark b) && not (ends_part b)

-- a text of such bytes
abbrev pub is_plain : List ℕ → Bool
is_plain text = list_all is_plain_byte text

-- decimal digits are plain
pub digits_plain : (n : ℕ) → n < 2 ^ 64 → is_plain (decimal n) ≡ true
digits_plain n small =
    decimal_by_steps (λ n ds. is_plain ds ≡ true)
    (λ n h. digit n h)
    (λ n ds h so_far. list_all-append is_plain_byte ds ((48 + n % 10) ∷ []) ∙ grind (arith, so_far, digit (n % 10) (omega arith)))
    n small
  where
    digit : (n : ℕ) → n < 10 → is_plain ((48 + n) ∷ []) ≡ true
    digit n h = grind (arith, nat_tests)

name_byte_plain : (b : ℕ) → is_name_byte b ≡ true → is_plain_byte b ≡ true
name_byte_plain b h = grind (arith, nat_tests)

bytes_plain : (text : List ℕ) → list_all is_name_byte text ≡ true → is_plain text ≡ true
bytes_plain [] h = refl
bytes_plain (b ∷ text) h =
    let both = and_parts (is_name_byte b) (list_all is_name_byte text) h in
    rw (name_byte_plain b both.0) (bytes_plain text both.1)

-- names are plain
pub name_plain : (name : List ℕ) → is_name name ≡ true → is_plain name ≡ true
unfolding is_name
name_plain name h = bytes_plain name (and_parts _ _ h).1

-- what is plain has no space, no exclamation mark, and no colon or comma
pub no_space_in : (text : List ℕ) → is_plain text ≡ true → has_no_space text ≡ true
no_space_in [] h = refl
no_space_in (b ∷ text) h =
    let both = and_parts (is_plain_byte b) (is_plain text) h in
    let byte = and_parts (is_no_space b && is_no_mark b) (not (ends_part b)) both.0 in
    rw (and_parts (is_no_space b) (is_no_mark b) byte.0).0 (no_space_in text both.1)

pub no_mark_in : (text : List ℕ) → is_plain text ≡ true → list_all is_no_mark text ≡ true
no_mark_in [] h = refl
no_mark_in (b ∷ text) h =
    let both = and_parts (is_plain_byte b) (is_plain text) h in
    let byte = and_parts (is_no_space b && is_no_mark b) (not (ends_part b)) both.0 in
    rw (and_parts (is_no_space b) (is_no_mark b) byte.0).1 (no_mark_in text both.1)

pub no_end_in : (text : List ℕ) → is_plain text ≡ true → lacks ends_part text ≡ true
no_end_in [] h = refl
no_end_in (b ∷ text) h =
    let both = and_parts (is_plain_byte b) (is_plain text) h in
    rw (and_parts (is_no_space b && is_no_mark b) (not (ends_part b)) both.0).1 (no_end_in text both.1)
