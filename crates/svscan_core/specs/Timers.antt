-- The timers of the services, as deadlines keep them.
use Rattle.std.specs.Prelude.{◌≡◌, ℕ, List, [], ◌∷◌, true, ◌==◌, nat_le, Option, Some, None, if◌then◌else◌}
use Rattle.s6_events.specs.At.{last_moment}
use Rattle.deadlines.specs.declared.timer.Timer.{Timer}
use Rattle.deadlines.specs.declared.timer.TimerChange.{TimerChange}
use Rattle.deadlines.specs.declared.timer.TimerChange.TheVariants.{Set, Clear}
use Rattle.deadlines.specs.Timers.{rises}
use Rattle.supervise_core.specs.declared.chart_state.ChartState.{ChartState}

-- the moment of a timer, unless it is past the greatest moment: no clock ever reaches it then
abbrev pub in_reach : Option ℕ → Option ℕ
in_reach None = None
in_reach (Some due) = if nat_le due last_moment then Some due else None

-- the moment of the timer of the service of a serial
abbrev pub timer_in : ℕ → List ChartState → Option ℕ
timer_in sid [] = None
timer_in sid (c ∷ services) = if c.sid == sid then in_reach c.timer else timer_in sid services

-- the moment to which the timer of a serial is set
abbrev pub set_in : ℕ → List Timer → Option ℕ
set_in sid [] = None
set_in sid (timer ∷ timers) = if timer.sid == sid then Some timer.at else set_in sid timers

-- timers agree with the services: they stand in rising serial, and each serial has the timer of its service
pub record TimersAgree (timers : List Timer) (services : List ChartState) : Type 0 where
  pub order : rises timers ≡ true
  pub moments : (sid : ℕ) → set_in sid timers ≡ timer_in sid services

-- the change that sets the timer of a service to this moment, or clears it
abbrev pub change_to : ℕ → Option ℕ → TimerChange
change_to sid None = Clear sid
change_to sid (Some at) = Set sid at

-- the change that sets the timer of a service to what its state says
abbrev pub timer_change_of : ChartState → TimerChange
timer_change_of c = change_to c.sid (in_reach c.timer)
