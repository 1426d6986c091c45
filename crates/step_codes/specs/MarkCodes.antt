-- How marks and exits are coded.
use Rattle.std.specs.Prelude.{ℕ, ◌<◌, List, ◌∷◌}
use Rattle.s6_events.specs.declared.mark.Mark.{Mark}
use Rattle.s6_events.specs.declared.mark.Mark.TheVariants.{SupervisorStarted, Spawned, Ready, Died, FinishDone, PermanentFailure, SupervisorEnded}
use Rattle.s6_events.specs.declared.exit.Exit.{Exit}
use Rattle.s6_events.specs.declared.exit.Exit.TheVariants.{Code, Killed}

abbrev pub mark_byte : Mark → ℕ
mark_byte SupervisorStarted = 0
mark_byte Spawned = 1
mark_byte Ready = 2
mark_byte Died = 3
mark_byte FinishDone = 4
mark_byte PermanentFailure = 5
mark_byte SupervisorEnded = 6

-- an exit code stands behind the byte 0, a signal behind 1
abbrev pub exit_onto : Exit → List ℕ → List ℕ
exit_onto (Code n) rest = 0 ∷ n ∷ rest
exit_onto (Killed n) rest = 1 ∷ n ∷ rest

abbrev pub FitsExit : Exit → Type 0
FitsExit (Code n) = n < 256
FitsExit (Killed n) = n < 256
