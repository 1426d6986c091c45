-- Which texts are names.
use Rattle.std.specs.Prelude.{ℕ, List, Bool, ◌&&◌, ◌||◌, ◌==◌, not, nat_le, length, slice_index}
use Rattle.std.specs.List.{list_all}

-- a letter, a digit, or one of . _ - @
abbrev pub is_name_byte : ℕ → Bool
is_name_byte b =
    (nat_le 65 b && nat_le b 90) || (nat_le 97 b && nat_le b 122) || (nat_le 48 b && nat_le b 57)
    || (b == 46) || (b == 95) || (b == 45) || (b == 64)

-- 1 to 64 such bytes, the first of them no dot
unfoldable pub is_name : List ℕ → Bool
is_name text = nat_le 1 (length text) && nat_le (length text) 64 && not (slice_index text 0 == 46)
    && list_all is_name_byte text
