use Rattle.std.proofs.Common.{◌+◌, ◌<◌, ◌^◌, take, All}
use Rattle.svscan_core.specs.Table.{charts_of}
use Rattle.svscan_core.specs.Work.{AreDue}
use Rattle.scan_tests.proofs.tables.are_fit.Given as goal

abbrev pub invariant-loop-place : goal.invariant-loop-place
invariant-loop-place g l = record {
  few : All (λ c. c.generation + 2 < 2 ^ 64) (take l.place (charts_of l.registry.shown.services));
  due : AreDue l.due l.now (take l.place (charts_of l.registry.shown.services));
}
