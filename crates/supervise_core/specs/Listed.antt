-- What a look at its directory makes of a service.
use Rattle.std.specs.Prelude.{ℕ, ◌+◌, Bool, None, Some, if◌then◌else◌}
use Rattle.servicedir.specs.declared.config.Config.{Config}
use Rattle.supervise_core.specs.declared.chart_state.ChartState.{ChartState}
use Rattle.supervise_core.specs.ChartState.{is_gone}

-- whether the directory is listed: where the supervisor has ended, a new one starts a second after it came back, and none while away
abbrev pub with_activity : Bool → ℕ → ChartState → ChartState
with_activity active now c =
    if is_gone c.phase then
    record c { active = active; timer = if active then (if c.active then c.timer else Some (now + 1000)) else None }
    else record c { active = active }

-- it takes the configuration that was read, but keeps the number of deaths that its tally was opened with
abbrev pub with_config : Config → ChartState → ChartState
with_config config c = record c { config = record config { max_death_tally = c.config.max_death_tally } }
