-- The letters of the marks.
use Rattle.std.specs.Prelude.{ℕ}
pub use Rattle.s6_events.specs.Letter.{is_letter}
use Rattle.s6_events.specs.declared.mark.Mark.{Mark}
use Rattle.s6_events.specs.declared.mark.Mark.TheVariants.{SupervisorStarted, Spawned, Ready, Died, FinishDone}
use Rattle.s6_events.specs.declared.mark.Mark.TheVariants.{PermanentFailure, SupervisorEnded}

-- the letter that stands for a mark: s, u, U, d, D, O, x
abbrev pub letter_of : Mark → ℕ
letter_of SupervisorStarted = 115
letter_of Spawned = 117
letter_of Ready = 85
letter_of Died = 100
letter_of FinishDone = 68
letter_of PermanentFailure = 79
letter_of SupervisorEnded = 120
