-- What a contract sees of a probe.
use Rattle.std.specs.Prelude.{ℕ, List}
use Rattle.s6_events.specs.declared.order.Order.{Order}
use Rattle.s6_events.specs.declared.report.Report.{Report}

-- what it took and gave, and how often it still answers Busy
pub record ProbeView : Type 0 where
  pub asked : List Order
  pub given : List Report
  pub busy : ℕ
