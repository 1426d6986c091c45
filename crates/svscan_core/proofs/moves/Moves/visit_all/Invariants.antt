use Rattle.std.proofs.Common.{◌≡◌, ◌≤◌, ◌+◌, ◌*◌, length}
use Rattle.svscan_core.specs.Moving.{step_so_far, with_changes, AreUnvisited, KeepNames, TakesUpTo}
use Rattle.svscan_core.specs.Table.{charts_of, serials_of}
use Rattle.svscan_core.specs.declared.visit.Visit.TheVariants.{Fire}
use Rattle.svscan_core.specs.Visit.{visit_move}
use Rattle.svscan_core.proofs.moves.Moves.visit_all.Given as goal

abbrev pub invariant-loop-place : goal.invariant-loop-place
invariant-loop-place g l = record {
  takes : TakesUpTo l.now (visit_move l.visit l.now) l.place (step_so_far l.slots.services l.fn.self) (step_so_far l.slots.services l.self);
  serials : serials_of (charts_of (with_changes l.slots.services l.self.touched.items))
      ≡ serials_of (charts_of (with_changes l.slots.services l.fn.self.touched.items));
  names : KeepNames l.slots.services l.fn.self.touched.items → KeepNames l.slots.services l.self.touched.items;
  few : length l.self.orders.items ≤ length l.fn.self.orders.items + 2 * l.place;
  fires : l.visit ≡ Fire → length l.self.orders.items ≤ length l.fn.self.orders.items + l.place;
  earlier : l.before ≤ length l.self.touched.items;
  unvisited : AreUnvisited l.slots.services l.before l.place l.self.touched.items;
}
