-- What a change of a service answers.
use Rattle.std.specs.Prelude.{◌≡◌, ◌++◌, ◌||◌, ℕ}
use Rattle.supervise_core.specs.declared.change.Change.{Change}
use Rattle.s6_events.specs.declared.report.Report.TheVariants.{Started, StartFailed, Notify, Death, FinishEnded}
use Rattle.supervise_core.specs.declared.change.Change.TheVariants.{Report, Control, Fire, SetConfig, SetActive}
use Rattle.supervise_core.specs.declared.chart_state.ChartState.{ChartState}
use Rattle.supervise_core.specs.declared.out.Out.{Out}
use Rattle.supervise_core.specs.ChartState.{Moved}

-- the state, the marks, the orders and whether it was stale are those of the move
pub record MatchesMove (moved : Moved) (after : ChartState) (out : Out) : Type 0 where
  pub chart : after ≡ moved.chart
  pub marks : out.events.items ≡ moved.marks
  pub orders : out.orders.items ≡ moved.orders
  pub stale : out.stale ≡ moved.stale

-- the state is that of the move, whose marks and orders follow those that were there; what was stale stays stale
pub record AppendsMove (moved : Moved) (after : ChartState) (old new : Out) : Type 0 where
  pub chart : after ≡ moved.chart
  pub marks : new.events.items ≡ old.events.items ++ moved.marks
  pub orders : new.orders.items ≡ old.orders.items ++ moved.orders
  pub stale : new.stale ≡ moved.stale || old.stale

-- the most orders that a change may give: two for each of 63 letters, else two
abbrev pub most_orders : Change → ℕ
most_orders (Control letters) = 126
most_orders _ = 2

-- the most marks that a change may give
abbrev pub most_marks : Change → ℕ
most_marks (Report (Started sid generation pid)) = 1
most_marks (Report (StartFailed sid generation)) = 2
most_marks (Report (Notify sid generation bytes)) = 1
most_marks (Report (Death sid generation exit)) = 3
most_marks (Report (FinishEnded sid generation exit)) = 3
most_marks (Control letters) = 1
most_marks Fire = 1
most_marks (SetConfig config) = 0
most_marks (SetActive active) = 0
