-- What one more mark of a service changes.
use Rattle.std.specs.Prelude.{Bool, true, false, Option, Some}
use Rattle.s6_events.specs.declared.mark.Mark.{Mark}
use Rattle.s6_events.specs.declared.mark.Mark.TheVariants as mark

-- s begins a supervisor, and x ends it
abbrev pub ended_after : Option Mark → Bool → Bool
ended_after (Some mark.SupervisorStarted) ended = false
ended_after (Some mark.SupervisorEnded) ended = true
ended_after _ ended = ended

-- a u is a start
abbrev pub spawned_after : Option Mark → Bool → Bool
spawned_after (Some mark.Spawned) spawned = true
spawned_after _ spawned = spawned

-- O is a failure, and u makes it good
abbrev pub failed_after : Option Mark → Bool → Bool
failed_after (Some mark.Spawned) failed = false
failed_after (Some mark.PermanentFailure) failed = true
failed_after _ failed = failed
