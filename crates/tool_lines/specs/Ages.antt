-- An age in two units.
use Rattle.std.specs.Prelude.{ℕ, ◌+◌, ◌/◌, ◌%◌, List, [], ◌∷◌, ◌++◌, decimal, nat_lt, if◌then◌else◌}

-- a number below 100 by two digits
abbrev pub two_digits : ℕ → List ℕ
two_digits n = (48 + n / 10) ∷ (48 + n % 10) ∷ []

-- a number of a unit, and the rest in the next smaller unit
abbrev pub in_units : ℕ → ℕ → ℕ → ℕ → List ℕ
in_units great great_unit small small_unit = decimal great ++ (great_unit ∷ (two_digits small ++ small_unit ∷ []))

-- an age in seconds, told in its two largest units: 12s, 3m12s, 5h03m, 2d07h
abbrev pub age_text : ℕ → List ℕ
age_text seconds =
    if nat_lt seconds 60 then decimal seconds ++ 115 ∷ [] else
    if nat_lt seconds 3600 then in_units (seconds / 60) 109 (seconds % 60) 115 else
    if nat_lt seconds 86400 then in_units (seconds / 3600) 104 (seconds / 60 % 60) 109 else
    in_units (seconds / 86400) 100 (seconds / 3600 % 24) 104
