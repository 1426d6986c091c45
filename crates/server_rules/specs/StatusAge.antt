-- How old a status may be.
use Rattle.std.specs.Prelude.{ℕ, ◌-◌, nat_lt, Bool, false, Option, Some, None}

-- the last step is less than a second old
abbrev pub is_recent : ℕ → ℕ → Bool
is_recent step now = nat_lt (now - step) 1000

-- a status may be told from rows that were read after the last step, while that step is recent
abbrev pub is_fresh : Option ℕ → ℕ → Bool
is_fresh (Some step) now = is_recent step now
is_fresh None now = false
