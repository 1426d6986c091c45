-- The last deaths of a service, read from all deaths.
use Rattle.std.specs.Prelude.{ℕ, List, Bool, Option, option_map, find, bytes_eq}
use Rattle.death_tally.specs.LastDeaths.{last_deaths}
use Rattle.death_tally.specs.PermanentFailure.{are_permanent_failure}
use Rattle.death_tally.specs.declared.exit_list.DeathItem.{DeathItem}
use Rattle.s6_events.specs.declared.exit.Exit.{Exit}
use Rattle.supervise_core.specs.declared.chart_state.ChartState.{ChartState}
use Rattle.svscan_core.specs.Deaths.{deaths_of}
use Rattle.tree_core.specs.Machine.{Machine}

-- the last deaths of a service, oldest first, as many as its directory said when it was added
abbrev pub tally_of : Machine → ChartState → List (ℕ × Exit)
tally_of m c = last_deaths c.config.max_death_tally (deaths_of c.sid m.deaths)

-- those of the service of this name
abbrev pub tally_named : List ℕ → Machine → Option (List (ℕ × Exit))
tally_named name m = option_map (tally_of m) (find (λ c. bytes_eq name c.name) m.services)

-- whether at least `count` of them are at most `seconds` seconds ago and named by the list
abbrev pub failure_named : List ℕ → ℕ → ℕ → List DeathItem → Machine → Option Bool
failure_named name seconds count items m =
    option_map (are_permanent_failure m.clock seconds count items) (tally_named name m)
