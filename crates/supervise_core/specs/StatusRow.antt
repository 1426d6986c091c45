-- The status row: ten fields that are read from the history and the chart.
use Rattle.std.specs.Prelude.{ℕ, ◌-◌, ◌/◌, List, Bool, true, false, not, Option, None, Some, if◌then◌else◌}
use Rattle.s6_events.specs.declared.mark.Mark.{Mark}
use Rattle.s6_events.specs.declared.mark.Mark.TheVariants.{Spawned, Ready}
use Rattle.s6_events.specs.declared.moment.Moment.{Moment}
use Rattle.s6_events.specs.CurrentLetter.{current_letter, up_or_down_since, ready_or_done_since, is_ready_or_done}
use Rattle.supervise_core.specs.declared.chart_state.ChartState.{ChartState}
use Rattle.supervise_core.specs.declared.row.Row.{Row}
use Rattle.supervise_core.specs.ChartState.{is_up}

-- u and U: the run is there
abbrev pub shows_up : Mark → Bool
shows_up Spawned = true
shows_up Ready = true
shows_up _ = false

-- whole seconds since a moment, rounded down
abbrev pub seconds_since : ℕ → Option ℕ → Option ℕ
seconds_since now None = None
seconds_since now (Some since) = Some ((now - since) / 1000)

-- the row of a service whose current letter is this one; u or d was told last at the first moment, U or D at the second one
abbrev pub row_of : Mark → Option ℕ → Option ℕ → ℕ → ChartState → Row
row_of letter up_or_down ready_or_done now c = record {
  sid = c.sid;
  name = c.name;
  up = shows_up letter;
  wanted_up = c.wanted_up;
  normally_up = not c.config.down;
  ready = is_ready_or_done letter;
  paused = c.paused;
  pid = if is_up c.phase then Some c.pid else None;
  exit = if shows_up letter then None else c.last_exit;
  up_down_for = seconds_since now up_or_down;
  ready_for = if is_ready_or_done letter then seconds_since now ready_or_done else None;
}

-- the status row of a service, read from the history and its chart
abbrev pub status_row : List Moment → ℕ → ChartState → Row
status_row history now c = row_of (current_letter c.sid history) (up_or_down_since c.sid history)
    (ready_or_done_since c.sid history) now c
