-- What a waiter knows of one of its services.
use Rattle.std.specs.Prelude.{ℕ, List, ◌++◌, Option, Some, None, if◌then◌else◌}
use Rattle.s6_events.specs.declared.mark.Mark.{Mark}
use Rattle.s6_events.specs.declared.moment.Moment.{Moment}
use Rattle.s6_events.specs.declared.condition.Condition.{Condition}
use Rattle.wait_conditions.specs.declared.supervisor_state.SupervisorState.{SupervisorState}
use Rattle.wait_conditions.specs.declared.supervisor_state.SinceState.{SinceState}
use Rattle.wait_conditions.specs.declared.watched_service.WatchedService.{WatchedService}
use Rattle.wait_conditions.specs.Holds.{holds_at}
use Rattle.wait_conditions.specs.Fails.{failure_at}
use Rattle.wait_conditions.specs.SupervisorState.{state_of, since_of, state_after, since_after}

-- a service of which this is known, and this since the waiter began; whether the condition holds of it, or else why it fails, if it does
abbrev pub watched_as : Condition → ℕ → SupervisorState → SinceState → WatchedService
watched_as c sid state since = record {
  sid = sid;
  state = state;
  since = since;
  holds = holds_at c state.letter since.spawned;
  failure = if holds_at c state.letter since.spawned then None else failure_at c since.failed state.ended;
}

-- what the moments before the waiter and since say of a service
abbrev pub watched_over : Condition → List Moment → List Moment → ℕ → WatchedService
watched_over c past since sid = watched_as c sid (state_of sid (past ++ since)) (since_of sid since)

-- after one more mark of the service, if there is one
abbrev pub watched_after : Condition → Option Mark → WatchedService → WatchedService
watched_after c None w = w
watched_after c (Some mark) w = watched_as c w.sid (state_after (Some mark) w.state) (since_after (Some mark) w.since)
