-- How much of a recorded script is whole.
use Rattle.std.specs.Prelude.{ℕ, ◌-◌, ◌%◌, ◌==◌, if◌then◌else◌}

-- of so many lines, those of whole steps: the head line, and for each step its input and its reply
abbrev pub lines_of_whole_steps : ℕ → ℕ
lines_of_whole_steps lines = if lines % 2 == 1 then lines else lines - 1
