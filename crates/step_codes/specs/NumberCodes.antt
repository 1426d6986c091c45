-- How numbers are coded.
use Rattle.std.specs.Prelude.{ℕ, ◌^◌, Bool, true, false, Option, Some, None, List, ◌∷◌, ◌++◌, nat_lt, if◌then◌else◌}
use Rattle.byteorder.specs.Endian.{little_bytes}

-- a number below 251 is one byte; one below 2^32 stands behind the byte 251, in four bytes; else it stands behind the byte 252, in eight
unfoldable pub number_onto : ℕ → List ℕ → List ℕ
number_onto n rest =
    if nat_lt n 251 then n ∷ rest else (if nat_lt n (2 ^ 32) then 251 ∷ (little_bytes 4 n ++ rest) else 252 ∷ (little_bytes 8 n ++ rest))

abbrev pub bool_byte : Bool → ℕ
bool_byte false = 0
bool_byte true = 1

-- what may be there stands behind the byte 1; where nothing is, there is a byte 0
abbrev pub option_onto : {X : Type 0} → (X → List ℕ → List ℕ) → Option X → List ℕ → List ℕ
option_onto onto None rest = 0 ∷ rest
option_onto onto (Some x) rest = 1 ∷ onto x rest

abbrev pub FitsOption : {X : Type 0} → (X → Type 0) → Option X → Type 0
FitsOption fits None = Unit {0}
FitsOption fits (Some x) = fits x
