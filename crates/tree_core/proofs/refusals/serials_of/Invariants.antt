use Rattle.std.proofs.Common.{◌≡◌, take, true, length}
use Rattle.svscan_core.specs.Table.{charts_of}
use Rattle.tree_core.specs.ActRefusals.{all_named, serials_named}
use Rattle.tree_core.proofs.refusals.serials_of.Given as goal

abbrev pub invariant-loop-name : goal.invariant-loop-name
invariant-loop-name g l = record {
  count : length l.sids.items ≡ l.name-index;
  all : all_named (take l.name-index l.names) (charts_of l.registry.shown.services) ≡ true;
  serials : l.sids.items ≡ serials_named (take l.name-index l.names) (charts_of l.registry.shown.services);
}
