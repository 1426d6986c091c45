-- Deaths of services, and what their tallies have of them.
use Rattle.std.specs.Prelude.{◌≡◌, ◌<◌, ℕ, List, [], ◌++◌, map, filter, ◌==◌, All}
use Rattle.std.specs.List.{flat_map}
use Rattle.death_tally.specs.LastDeaths.{Tallies}
use Rattle.s6_events.specs.declared.exit.Exit.{Exit}
use Rattle.supervise_core.specs.declared.chart_state.ChartState.{ChartState}
use Rattle.supervise_core.specs.ChartState.{Moved}
use Rattle.supervise_core.specs.Service.{Supervised}
use Rattle.svscan_core.specs.Work.{Work, change_move_at}
use Rattle.svscan_core.specs.Work.Work.{change_one}

-- a death of a service: whose, when and how
pub record DeathOf : Type 0 where
  pub sid : ℕ
  pub at : ℕ
  pub exit : Exit

abbrev pub death_of : ℕ → ℕ × Exit → DeathOf
death_of sid death = record { sid = sid; at = death.0; exit = death.1 }

-- the deaths of the service of a serial, each with its moment
abbrev pub deaths_of : ℕ → List DeathOf → List (ℕ × Exit)
deaths_of sid deaths = map (λ d. (d.at, d.exit)) (filter (λ d. d.sid == sid) deaths)

-- the deaths that a move of every service reports
abbrev pub deaths_after : (ChartState → Moved) → List ChartState → List DeathOf
deaths_after move services = flat_map (λ c. map (death_of c.sid) (move c).deaths) services

-- the deaths that work reports, done at a moment on these services
abbrev pub deaths_given : Work → ℕ → List ChartState → List DeathOf
deaths_given (change_one sid change) now services = deaths_after (change_move_at sid change now) services
deaths_given work now services = []

-- a service has the last of its deaths, as many as it was added with
pub record IsTallied (s : Supervised) (deaths : List DeathOf) : Type 0 where
  pub most : s.tally.most ≡ s.chart.config.max_death_tally
  pub kept : Tallies s.tally (deaths_of s.chart.sid deaths)

-- each service has the last of its deaths
abbrev pub AllTallied : List Supervised → List DeathOf → Type 0
AllTallied services deaths = All (λ s. IsTallied s deaths) services

-- deaths of services whose serials are below the next one
abbrev pub AllBefore : ℕ → List DeathOf → Type 0
AllBefore next deaths = All (λ d. d.sid < next) deaths

-- where the old services had the last of some deaths, all of serials below `next`, the new ones have the last of those deaths and these
abbrev pub KeepTallied : ℕ → List Supervised → List Supervised → List DeathOf → Type 0
KeepTallied next old new more = (deaths : List DeathOf) → AllBefore next deaths → AllTallied old deaths
    → AllTallied new (deaths ++ more)
