-- What is true of every table.
use Rattle.std.specs.Prelude.{◌≡◌, ℕ, ◌≤◌, List, [], ◌∷◌, ◌++◌, length, All, false, true}
use Rattle.deadlines.specs.Timers.{is_rising}
use Rattle.s6_events.specs.declared.moment.Moment.{Moment}
use Rattle.supervise_core.specs.declared.chart_state.ChartState.{ChartState}
use Rattle.supervise_core.specs.Service.{Supervised, AgreesWith}
use Rattle.svscan_core.specs.Limits.{service_limit}
use Rattle.svscan_core.specs.Names.{repeats_name}
use Rattle.svscan_core.specs.Table.{names_of, serials_of}

-- the serials of the services rise, and the next one is above them all
abbrev pub IsNumbered : ℕ → List ChartState → Type 0
IsNumbered next services = is_rising (serials_of services ++ next ∷ []) ≡ true

-- at most `service_limit` services, no name twice, and the serials in order
pub record IsSound (next : ℕ) (services : List ChartState) : Type 0 where
  pub few : length services ≤ service_limit
  pub names : repeats_name (names_of services) ≡ false
  pub order : IsNumbered next services

-- a history agrees with all that the services store of their marks
abbrev pub AllAgree : List Supervised → List Moment → Type 0
AllAgree services history = All (λ s. AgreesWith s history) services
