-- Moments are milliseconds.
use Rattle.std.specs.Prelude.{ℕ}

-- the greatest moment
abbrev pub last_moment : ℕ
last_moment = 1000000000000000
