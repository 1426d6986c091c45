-- When a condition holds of a service, over the moments since a waiter began.
use Rattle.std.specs.Prelude.{ℕ, List, ◌++◌, Bool, true, false, ◌&&◌, ◌||◌, not, is_some}
use Rattle.s6_events.specs.declared.mark.Mark.{Mark}
use Rattle.s6_events.specs.declared.mark.Mark.TheVariants as mark
use Rattle.s6_events.specs.declared.moment.Moment.{Moment}
use Rattle.s6_events.specs.declared.condition.Condition.{Condition}
use Rattle.s6_events.specs.declared.condition.Condition.TheVariants as condition
use Rattle.s6_events.specs.Newest.{newest}
use Rattle.s6_events.specs.CurrentLetter.{current_letter}

-- a u
abbrev pub is_spawned : Mark → Bool
is_spawned mark.Spawned = true
is_spawned _ = false

-- a U
abbrev pub is_ready : Mark → Bool
is_ready mark.Ready = true
is_ready _ = false

-- a D
abbrev pub is_finished : Mark → Bool
is_finished mark.FinishDone = true
is_finished _ = false

-- a d
abbrev pub is_died : Mark → Bool
is_died mark.Died = true
is_died _ = false

-- the letters at which a condition may hold: u and U for up, U for ready, d and D for down, D for finished
abbrev pub suits : Condition → Mark → Bool
suits condition.Up letter = is_spawned letter || is_ready letter
suits condition.Ready letter = is_ready letter
suits condition.Down letter = is_died letter || is_finished letter
suits condition.Finished letter = is_finished letter
suits condition.Restarted letter = is_spawned letter || is_ready letter
suits condition.RestartedReady letter = is_ready letter

-- the conditions that also ask for a start since the waiter began
abbrev pub asks_restart : Condition → Bool
asks_restart condition.Restarted = true
asks_restart condition.RestartedReady = true
asks_restart _ = false

-- the letter suits, and there was a start since where one is asked for
abbrev pub holds_at : Condition → Mark → Bool → Bool
holds_at wanted letter spawned = suits wanted letter && (not (asks_restart wanted) || spawned)

-- a u of the service is among the moments
abbrev pub has_spawned : ℕ → List Moment → Bool
has_spawned sid since = is_some (newest is_spawned sid since)

-- the condition holds of the service; its letter is read from all moments, a start from those since the waiter began
abbrev pub holds : Condition → ℕ → List Moment → List Moment → Bool
holds wanted sid past since = holds_at wanted (current_letter sid (past ++ since)) (has_spawned sid since)
