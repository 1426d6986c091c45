-- Which texts are numbers.
use Rattle.std.specs.Prelude.{ℕ, List, Bool, Option, Some, None, ◌+◌, ◌-◌, ◌*◌, ◌&&◌, nat_le, length, fold}
use Rattle.std.specs.Prelude.{if◌then◌else◌}
use Rattle.std.specs.List.{list_all}
pub use Rattle.std.specs.Io.BufRead.{strip_last}

-- a digit of ASCII
abbrev pub is_digit : ℕ → Bool
is_digit byte = nat_le 48 byte && nat_le byte 57

-- one digit or more, and nothing else
abbrev pub are_digits : List ℕ → Bool
are_digits text = nat_le 1 (length text) && list_all is_digit text

-- the number with one more digit written behind it
abbrev pub with_digit : ℕ → ℕ → ℕ
with_digit value digit = 10 * value + (digit - 48)

-- the number that digits write
abbrev pub value_of_digits : List ℕ → ℕ
value_of_digits digits = fold with_digit 0 digits

-- the number that a text of digits writes, where it is at most `most`
unfoldable pub number_up_to : ℕ → List ℕ → Option ℕ
number_up_to most text = if are_digits text && nat_le (value_of_digits text) most then Some (value_of_digits text)
    else None

-- the text without the one newline that may end it
abbrev pub line_of : List ℕ → List ℕ
line_of text = strip_last 10 text

-- the number of a number file: digits, at most one newline, at most 4294967295
abbrev pub number_of : List ℕ → Option ℕ
number_of text = number_up_to 4294967295 (line_of text)
