-- How many orders a move gives, where it is fewer than a change may give, and that it leaves the serial and the name.
use Rattle.std.proofs.Common.{◌≡◌, ℕ}
use Rattle.supervise_core.specs.declared.change.Change.{Change}
use Rattle.supervise_core.specs.declared.chart_state.ChartState.{ChartState}
use Rattle.supervise_core.specs.Chart.{changed_by}
use Rattle.supervise_core.proofs.Identity.{keeps_changed}

pub same_name : (change : Change) (now : ℕ) (c : ChartState) → (changed_by change now c).chart.name ≡ c.name
same_name change now c = (keeps_changed change now c).name
