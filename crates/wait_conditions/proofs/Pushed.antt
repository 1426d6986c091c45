-- One more moment changes what is known of a service by its mark alone.
use Rattle.std.proofs.Common.{◌≡◌, ℕ, List, [], ◌∷◌, ◌++◌, Option, is_some, ◌∙◌, rules}
use Rattle.wait_conditions.specs.declared.supervisor_state.SupervisorState.{SupervisorState}
use Rattle.wait_conditions.specs.declared.supervisor_state.SinceState.{SinceState}
use Rattle.s6_events.specs.declared.mark.Mark.{Mark}
use Rattle.s6_events.specs.declared.moment.Moment.{Moment}
use Rattle.s6_events.specs.Clock.{clock_of}
use Rattle.s6_events.specs.Newest.{Dated, newest, mark_of, newer}
use Rattle.s6_events.specs.CurrentLetter.{start_or, tells_state, mark_or_done}
use Rattle.s6_events.proofs.Newest.{newest-push}
use Rattle.wait_conditions.specs.Holds.{is_spawned}
use Rattle.wait_conditions.specs.Fails.{is_failed, tells_failure, is_ended, tells_supervisor}
use Rattle.wait_conditions.specs.SupervisorState.{state_of, since_of, state_after, since_after}

-- what the newest marks tell
abbrev state_told : Option Dated → Option Dated → SupervisorState
state_told letter supervisor = record { letter = mark_or_done letter; ended = is_ended supervisor }

abbrev since_told : Option Dated → Option Dated → SinceState
since_told spawned failure = record { spawned = is_some spawned; failed = is_failed failure }

-- one more mark changes it as the mark says
state_newer : (at : ℕ) (mark : Option Mark) (l s : Option Dated)
    → state_told (newer (start_or tells_state) at mark l) (newer tells_supervisor at mark s) ≡ state_after mark (state_told l s)
state_newer at mark l s = search rules

since_newer : (at : ℕ) (mark : Option Mark) (s f : Option Dated)
    → since_told (newer is_spawned at mark s) (newer tells_failure at mark f) ≡ since_after mark (since_told s f)
since_newer at mark s f = search rules

pub state_of-push : (sid : ℕ) (moments : List Moment) (m : Moment)
    → state_of sid (moments ++ m ∷ []) ≡ state_after (mark_of sid m) (state_of sid moments)
state_of-push sid moments m =
    (λ i. state_told (newest-push (start_or tells_state) sid moments m i) (newest-push tells_supervisor sid moments m i))
    ∙ state_newer (clock_of moments) (mark_of sid m) (newest (start_or tells_state) sid moments) (newest tells_supervisor sid moments)

pub since_of-push : (sid : ℕ) (since : List Moment) (m : Moment) → since_of sid (since ++ m ∷ []) ≡ since_after (mark_of sid m) (since_of sid since)
since_of-push sid since m =
    (λ i. since_told (newest-push is_spawned sid since m i) (newest-push tells_failure sid since m i))
    ∙ since_newer (clock_of since) (mark_of sid m) (newest is_spawned sid since) (newest tells_failure sid since)
