-- What is known of every service, in runs of neighbours of which the same is known.
use Rattle.std.specs.Prelude.{◌≡◌, ◌<◌, ◌≤◌, ◌+◌, ◌-◌, ℕ, List, [], ◌∷◌, nat_le, slice_get, if◌then◌else◌, IsSomeAnd}
use Rattle.s6_events.specs.declared.moment.Moment.{Moment}
use Rattle.s6_events.specs.Newest.{mark_of}
use Rattle.wait_conditions.specs.declared.service_states.StateRun.{StateRun}
use Rattle.wait_conditions.specs.declared.supervisor_state.SupervisorState.{SupervisorState}
use Rattle.wait_conditions.specs.SupervisorState.{state_of, state_after}

-- what is known of a service: what the first run that reaches up to its serial says, or that it has no mark
abbrev pub state_in : List StateRun → ℕ → SupervisorState
state_in [] sid = state_of 0 []
state_in (r ∷ runs) sid = if nat_le sid r.last then r.state else state_in runs sid

-- the run at this place reaches no further than the one before it
abbrev pub IsCovered : List StateRun → ℕ → Type 0
IsCovered runs place = (0 < place) × IsSomeAnd (slice_get runs (place - 1)) (λ before. IsSomeAnd (slice_get runs place) (λ r. r.last ≤ before.last))

-- the run at this place says the same as the one after it, and reaches no further than that one
abbrev pub IsRepeated : List StateRun → ℕ → Type 0
IsRepeated runs place = IsSomeAnd (slice_get runs place) (λ r. IsSomeAnd (slice_get runs (place + 1)) (λ after.
    (r.last ≤ after.last) × (r.state ≡ after.state)))

-- what is known of a service after these moments, one after the other
abbrev pub state_over : ℕ → List Moment → SupervisorState → SupervisorState
state_over sid [] state = state
state_over sid (m ∷ ms) state = state_over sid ms (state_after (mark_of sid m) state)

-- the runs, and how many more fit without more memory
pub record RunList : Type 0 where
  pub runs : List StateRun
  pub spare_capacity : ℕ
