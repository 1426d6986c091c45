-- When a condition can't hold any more without a new start, and why.
use Rattle.std.specs.Prelude.{ℕ, List, ◌++◌, Bool, true, false, ◌&&◌, Option, Some, None, if◌then◌else◌}
use Rattle.s6_events.specs.declared.mark.Mark.{Mark}
use Rattle.s6_events.specs.declared.mark.Mark.TheVariants as mark
use Rattle.s6_events.specs.declared.moment.Moment.{Moment}
use Rattle.s6_events.specs.declared.condition.Condition.{Condition}
use Rattle.s6_events.specs.declared.condition.Condition.TheVariants as condition
use Rattle.s6_events.specs.Newest.{Dated, newest}
use Rattle.wait_conditions.specs.declared.condition_fails.Failure.{Failure}
use Rattle.wait_conditions.specs.declared.condition_fails.Failure.TheVariants.{Permanent, Unsupervised}
use Rattle.wait_conditions.specs.Holds.{holds}

-- the conditions that ask for a service that is up
abbrev pub asks_up : Condition → Bool
asks_up condition.Down = false
asks_up condition.Finished = false
asks_up _ = true

-- O, which is a failure, and u, which makes it good
abbrev pub tells_failure : Mark → Bool
tells_failure mark.Spawned = true
tells_failure mark.PermanentFailure = true
tells_failure _ = false

-- the mark is an O
abbrev pub is_failed : Option Dated → Bool
is_failed (Some (_, mark.PermanentFailure)) = true
is_failed _ = false

-- the newest of a service's u and O is an O
abbrev pub has_failed : ℕ → List Moment → Bool
has_failed sid since = is_failed (newest tells_failure sid since)

-- s and x, which begin and end a supervisor
abbrev pub tells_supervisor : Mark → Bool
tells_supervisor mark.SupervisorStarted = true
tells_supervisor mark.SupervisorEnded = true
tells_supervisor _ = false

-- the mark is an x
abbrev pub is_ended : Option Dated → Bool
is_ended (Some (_, mark.SupervisorEnded)) = true
is_ended _ = false

-- the newest of a service's s and x is an x
abbrev pub has_ended : ℕ → List Moment → Bool
has_ended sid moments = is_ended (newest tells_supervisor sid moments)

-- why a condition that doesn't hold fails: for one that asks for up, an O that stands; else that the supervisor has ended
abbrev pub failure_at : Condition → Bool → Bool → Option Failure
failure_at wanted failed ended =
    if asks_up wanted && failed then Some Permanent
    else if ended then Some Unsupervised
    else None

-- the failure of the condition of a service, if it fails; an O counts since the waiter began
abbrev pub failure : Condition → ℕ → List Moment → List Moment → Option Failure
failure wanted sid past since =
    if holds wanted sid past since then None
    else failure_at wanted (has_failed sid since) (has_ended sid (past ++ since))
