-- A moment in seconds.
use Rattle.std.specs.Prelude.{ℕ, ◌+◌, ◌/◌, ◌%◌, List, [], ◌∷◌, ◌++◌, decimal}

-- a number below 1,000 by three digits
abbrev pub three_digits : ℕ → List ℕ
three_digits n = (48 + n / 100) ∷ (48 + n / 10 % 10) ∷ (48 + n % 10) ∷ []

-- milliseconds in seconds, with three decimals
abbrev pub seconds_text : ℕ → List ℕ
seconds_text millis = decimal (millis / 1000) ++ (46 ∷ three_digits (millis % 1000))

-- the beginning of a line: the moment, and a space
abbrev pub moment_text : ℕ → List ℕ
moment_text now = seconds_text now ++ 32 ∷ []

-- the beginning of a line about a waiter or a subscription: the moment, its word, and its serial
abbrev pub serial_front : ℕ → List ℕ → ℕ → List ℕ
serial_front now word id = moment_text now ++ (word ++ decimal id)
