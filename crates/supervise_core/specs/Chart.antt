-- The chart: any of the changes of a service.
use Rattle.std.specs.Prelude.{ℕ}
pub use Rattle.supervise_core.specs.Reports.{is_awaiting, is_running, is_in_finish, started_move, start_failed_move}
pub use Rattle.supervise_core.specs.Reports.{notify_move, with_last_exit, death_move, finish_ended_move}
pub use Rattle.supervise_core.specs.ControlLetters.{letter_move, control_move}
pub use Rattle.supervise_core.specs.Timer.{is_due, timer_rule, fire_move}
pub use Rattle.supervise_core.specs.Listed.{with_activity, with_config}
use Rattle.supervise_core.specs.declared.change.Change.{Change}
use Rattle.s6_events.specs.declared.report.Report.TheVariants.{Started, StartFailed, Notify, Death, FinishEnded}
use Rattle.supervise_core.specs.declared.change.Change.TheVariants.{Report, Control, Fire, SetConfig, SetActive}
use Rattle.supervise_core.specs.declared.chart_state.ChartState.{ChartState}
use Rattle.supervise_core.specs.ChartState.{Moved, no_move}

-- the five reports, of which the phase and the generation tell whether they are stale; letters; the timer; a look at the directory
abbrev pub changed_by : Change → ℕ → ChartState → Moved
changed_by (Report (Started sid generation pid)) now c = started_move generation pid now c
changed_by (Report (StartFailed sid generation)) now c = start_failed_move generation now c
changed_by (Report (Notify sid generation bytes)) now c = notify_move generation bytes.items now c
changed_by (Report (Death sid generation exit)) now c = death_move generation exit now c
changed_by (Report (FinishEnded sid generation exit)) now c = finish_ended_move generation exit now c
changed_by (Control letters) now c = control_move letters.items now c
changed_by Fire now c = fire_move now c
changed_by (SetConfig config) now c = no_move (with_config config c)
changed_by (SetActive active) now c = no_move (with_activity active now c)
