-- How long a tool goes on trying where the server is busy. All times are in milliseconds.
use Rattle.std.specs.Prelude.{ℕ, zero, suc, ◌-◌, ◌*◌, min, max, Option, Some, None}
use Rattle.s6_tools.specs.declared.patience.Patience.{Patience}

abbrev pub first_pause : ℕ
first_pause = 20

abbrev pub longest_pause : ℕ
longest_pause = 500

-- how long a wait with this timeout may take; 0 means that it has none
abbrev pub time_of_wait : ℕ → Option ℕ
time_of_wait zero = None
time_of_wait (suc n) = Some (suc n)

-- the timeout of a wait for which this time is left: at least 1, since 0 means none
abbrev pub timeout_within : Option ℕ → ℕ
timeout_within None = 0
timeout_within (Some n) = min (max n 1) 4294967295

-- how long a try may take: what is left, but long enough for a busy server to say so
abbrev pub time_of_try : Option ℕ → Option ℕ
time_of_try None = None
time_of_try (Some n) = Some (max n 500)

-- a pause, no longer than the time that is left; None where no time is left
abbrev pub pause_within : Option ℕ → ℕ → Option ℕ
pause_within None pause = Some pause
pause_within (Some zero) pause = None
pause_within (Some (suc n)) pause = Some (min pause (suc n))

-- the next pause
abbrev pub pause_of : Patience → Option ℕ
pause_of p = pause_within p.left p.pause

-- what is left after a pause
abbrev pub left_after : Option ℕ → ℕ → Option ℕ
left_after None pause = None
left_after (Some n) pause = Some (n - pause)

-- the patience after a pause: the next pause is twice as long, up to the longest, and the time that was waited is gone; where no time is
-- left, it stays as it is
abbrev pub after_this : Option ℕ → Patience → Patience
after_this None p = p
after_this (Some pause) p = record { pause = min (p.pause * 2) longest_pause; left = left_after p.left pause }

abbrev pub after_pause : Patience → Patience
after_pause p = after_this (pause_of p) p
