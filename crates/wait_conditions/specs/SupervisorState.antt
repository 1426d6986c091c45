-- What is known of a service, and of it since a waiter began.
use Rattle.std.specs.Prelude.{ℕ, List, Option}
use Rattle.s6_events.specs.declared.mark.Mark.{Mark}
use Rattle.s6_events.specs.declared.moment.Moment.{Moment}
use Rattle.s6_events.specs.CurrentLetter.{current_letter, letter_after}
use Rattle.wait_conditions.specs.declared.supervisor_state.SupervisorState.{SupervisorState}
use Rattle.wait_conditions.specs.declared.supervisor_state.SinceState.{SinceState}
use Rattle.wait_conditions.specs.Holds.{has_spawned}
use Rattle.wait_conditions.specs.Fails.{has_failed, has_ended}
use Rattle.wait_conditions.specs.OneMore.{ended_after, spawned_after, failed_after}

-- its current letter, and whether its supervisor has ended
abbrev pub state_of : ℕ → List Moment → SupervisorState
state_of sid moments = record { letter = current_letter sid moments; ended = has_ended sid moments }

-- whether a u is among the moments, and an O with no later u
abbrev pub since_of : ℕ → List Moment → SinceState
since_of sid since = record { spawned = has_spawned sid since; failed = has_failed sid since }

-- what is known after one more mark, if there is one
abbrev pub state_after : Option Mark → SupervisorState → SupervisorState
state_after mark state = record { letter = letter_after mark state.letter; ended = ended_after mark state.ended }

abbrev pub since_after : Option Mark → SinceState → SinceState
since_after mark state = record { spawned = spawned_after mark state.spawned; failed = failed_after mark state.failed }
