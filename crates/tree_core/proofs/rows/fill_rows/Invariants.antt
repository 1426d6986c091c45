use Rattle.std.proofs.Common.{◌≡◌, List, take, map, length}
use Rattle.s6_events.specs.declared.moment.Moment.{Moment}
use Rattle.supervise_core.specs.StatusRow.{status_row}
use Rattle.svscan_core.specs.Sound.{AllAgree}
use Rattle.svscan_core.specs.Table.{charts_of}
use Rattle.tree_core.proofs.rows.fill_rows.Given as goal

abbrev pub invariant-loop-place : goal.invariant-loop-place
invariant-loop-place g l = record {
  rows : (history : List Moment) → AllAgree l.registry.shown.services history
      → l.rows.items ≡ take l.place (map (status_row history l.now) (charts_of l.registry.shown.services));
  count : length l.rows.items ≡ l.place;
}
