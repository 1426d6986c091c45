-- The words in the text about a fault.
use Rattle.std.specs.Prelude.{ℕ, List, [], ◌∷◌, ◌++◌, ◌+◌, ◌/◌, ◌%◌, ◌&&◌, Option, Some, None, codes, nat_le, nat_lt, take, if◌then◌else◌}
use Rattle.std.specs.List.{flat_map}

abbrev pub hex_digit : ℕ → ℕ
hex_digit digit = if nat_lt digit 10 then 48 + digit else 87 + digit

-- a byte as it is, if it is printable, else `\x` and two digits
abbrev pub escaped_byte : ℕ → List ℕ
escaped_byte b = if nat_le 32 b && nat_le b 126 then b ∷ [] else 92 ∷ 120 ∷ hex_digit (b / 16) ∷ hex_digit (b % 16) ∷ []

-- the first bytes of a word, at most `most`
abbrev pub escaped : ℕ → List ℕ → List ℕ
escaped most word = flat_map escaped_byte (take most word)

-- a word between quotes; `unknown` where there is no word
abbrev pub named : List ℕ → Option (List ℕ) → List ℕ
named unknown (Some word) = codes "'" ++ (escaped 64 word ++ codes "'")
named unknown None = unknown
