use Rattle.std.proofs.Common.{◌≡◌, take, true}
use Rattle.std.specs.List.{list_all}
use Rattle.supervise_core.specs.ChartState.{is_gone}
use Rattle.svscan_core.specs.Table.{charts_of}
use Rattle.tree_core.proofs.next_due.are_gone.Given as goal

abbrev pub invariant-loop-place : goal.invariant-loop-place
invariant-loop-place g l = list_all (λ c. is_gone c.phase) (take l.place (charts_of l.registry.shown.services)) ≡ true
