-- Bytes are read back from their digits.
use Rattle.std.proofs.Common.{◌≡◌, ◌∙◌, ap, refl, ℕ, zero, suc, List, [], ◌∷◌, true, length, slice_index, ◌/◌, ◌%◌, Result, Ok, Err}
use Rattle.std.specs.Prelude.{MatchResult}
use Rattle.std.proofs.lemmas.Bool.{and_parts}
use Rattle.hex.specs.Hex.{IsBytes, encode_with, encode_lower, lower_digits, decode_sized}
use Rattle.hex.specs.declared.error.FromHexError.{FromHexError}
use Rattle.hex.proofs.HexLemmas.{decode_sized-encode_lower}
use Rattle.s6_script.proofs.Joined.{is_no_space, has_no_space}

-- what has no space has none at any place
no_space_at : (text : List ℕ) (i : ℕ) → has_no_space text ≡ true → is_no_space (slice_index text i) ≡ true
no_space_at [] i h = refl
no_space_at (b ∷ text) zero h = (and_parts (is_no_space b) (has_no_space text) h).0
no_space_at (b ∷ text) (suc i) h = no_space_at text i (and_parts (is_no_space b) (has_no_space text) h).1

-- digits are no spaces
pub hex_plain : (bytes : List ℕ) → has_no_space (encode_lower bytes) ≡ true
unfolding encode_with
hex_plain [] = refl
hex_plain (b ∷ bytes) = rw (no_space_at lower_digits (b / 16) refl, no_space_at lower_digits (b % 16) refl) (hex_plain bytes)

-- into room for so many bytes, their digits are read as these bytes
pub bytes_back : (word bytes new : List ℕ) (room : ℕ) (read : Result Unit FromHexError) → word ≡ encode_lower bytes → IsBytes bytes
    → length bytes ≡ room
    → MatchResult (decode_sized word room) (λ found. (read ≡ Ok tt) × (new ≡ found)) (λ e. read ≡ Err e) → (read ≡ Ok tt) × (new ≡ bytes)
bytes_back word bytes new room read spelled fits same found =
    let whole : decode_sized word room ≡ Ok bytes = ap (λ w. decode_sized w room) spelled ∙ decode_sized-encode_lower bytes room same fits in
    rw whole at found
