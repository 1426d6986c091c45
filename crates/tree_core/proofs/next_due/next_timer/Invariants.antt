use Rattle.std.proofs.Common.{◌≡◌, take}
use Rattle.svscan_core.specs.Table.{charts_of}
use Rattle.tree_core.specs.NextDue.{next_timer}
use Rattle.tree_core.proofs.next_due.next_timer.Given as goal

abbrev pub invariant-loop-place : goal.invariant-loop-place
invariant-loop-place g l = l.next ≡ next_timer (take l.place (charts_of l.registry.shown.services))
