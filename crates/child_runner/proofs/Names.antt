-- A name is a text.
use Rattle.std.proofs.Common.{◌≡◌, ◌<◌, ℕ, List, length, Bool, true, ◌&&◌, ◌==◌, nat_le, not, slice_index, IsTrue, rules, arith}
use Rattle.std.specs.List.{All, AllPass, list_all}
use Rattle.std.specs.Str.{IsUtf8}
use Rattle.std.proofs.lemmas.Bool.Decides.{nat_tests}
use Rattle.std.proofs.lemmas.List.Sums.{AllPass-from_list_all}
use Rattle.std.proofs.lemmas.Str.{IsUtf8-from_ascii}
use Rattle.std.proofs.lemmas.Str.Ascii.{IsAscii-from_all}
use Rattle.s6_events.specs.Name.{is_name, is_name_byte}

small : (b : ℕ) → is_name_byte b ≡ true → b < 128
small b is = grind (arith, nat_tests, is)

all_small : (text : List ℕ) → AllPass is_name_byte text → All (λ b. b < 128) text
all_small text each k d below = small _ (each k d below)

last : (a b c d : Bool) → (a && b && c && d) ≡ true → d ≡ true
last a b c d is = grind (rules, is)

pub name_is_text : (text : List ℕ) → IsTrue (is_name text) → IsUtf8 text
unfolding is_name
name_is_text text is = IsUtf8-from_ascii text
    (IsAscii-from_all text (all_small text (AllPass-from_list_all is_name_byte text
    (last (nat_le 1 (length text)) (nat_le (length text) 64) (not (slice_index text 0 == 46)) (list_all is_name_byte text) is))))
