-- Which signals a process ignores.
use Rattle.std.specs.Prelude.{ℕ, ◌-◌, ◌/◌, ◌%◌, ◌^◌, ◌==◌, Bool}

-- the mask has a bit for each signal, the first for signal 1
abbrev pub is_ignored : ℕ → ℕ → Bool
is_ignored mask signal = mask / 2 ^ (signal - 1) % 2 == 1
