-- What the marks of a service say of it: its current letter, and since when.
use Rattle.std.specs.Prelude.{ℕ, List, Bool, true, false, ◌||◌, Option, None, Some}
use Rattle.s6_events.specs.declared.mark.Mark.{Mark}
use Rattle.s6_events.specs.declared.mark.Mark.TheVariants.{SupervisorStarted, Spawned, Ready, Died, PermanentFailure, FinishDone, SupervisorEnded}
use Rattle.s6_events.specs.declared.moment.Moment.{Moment}
use Rattle.s6_events.specs.Newest.{Dated, newest}

-- s
abbrev pub is_start : Mark → Bool
is_start SupervisorStarted = true
is_start _ = false

-- u or d
abbrev pub is_up_or_down : Mark → Bool
is_up_or_down Spawned = true
is_up_or_down Died = true
is_up_or_down _ = false

-- U or D
abbrev pub is_ready_or_done : Mark → Bool
is_ready_or_done Ready = true
is_ready_or_done FinishDone = true
is_ready_or_done _ = false

-- u, U, d or D
abbrev pub tells_state : Mark → Bool
tells_state Spawned = true
tells_state Ready = true
tells_state Died = true
tells_state FinishDone = true
tells_state _ = false

-- s, or a mark of that kind
abbrev pub start_or : (Mark → Bool) → Mark → Bool
start_or kind mark = is_start mark || kind mark

-- the mark, or D where it is s or there is none
abbrev pub mark_or_done : Option Dated → Mark
mark_or_done None = FinishDone
mark_or_done (Some (_, SupervisorStarted)) = FinishDone
mark_or_done (Some (_, mark)) = mark

-- the current letter: the newest of s, u, U, d, D, or D where that is s or there is none
abbrev pub current_letter : ℕ → List Moment → Mark
current_letter sid history = mark_or_done (newest (start_or tells_state) sid history)

-- the current letter after one more mark, if there is one: s makes it D; u, U, d and D become the letter; O and x leave it
abbrev pub letter_after : Option Mark → Mark → Mark
letter_after None letter = letter
letter_after (Some SupervisorStarted) letter = FinishDone
letter_after (Some PermanentFailure) letter = letter
letter_after (Some SupervisorEnded) letter = letter
letter_after (Some other) letter = other

-- the moment, unless the mark is s or there is none
abbrev pub moment_unless_start : Option Dated → Option ℕ
moment_unless_start None = None
moment_unless_start (Some (_, SupervisorStarted)) = None
moment_unless_start (Some (at, _)) = Some at

-- the moment of the newest of s, u, d, unless that is s or there is none
abbrev pub up_or_down_since : ℕ → List Moment → Option ℕ
up_or_down_since sid history = moment_unless_start (newest (start_or is_up_or_down) sid history)

-- the moment of the newest of s, U, D, unless that is s or there is none
abbrev pub ready_or_done_since : ℕ → List Moment → Option ℕ
ready_or_done_since sid history = moment_unless_start (newest (start_or is_ready_or_done) sid history)
