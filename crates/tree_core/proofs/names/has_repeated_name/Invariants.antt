use Rattle.std.proofs.Common.{◌≡◌, take}
use Rattle.svscan_core.specs.Listing.{in_byte_order}
use Rattle.svscan_core.specs.Names.{repeats_name}
use Rattle.tree_core.proofs.names.has_repeated_name.Given as goal

abbrev pub invariant-loop-name : goal.invariant-loop-name
invariant-loop-name g l = record {
  names : l.set.keys ≡ in_byte_order (take l.name-index l.names);
  repeats : l.repeats ≡ repeats_name (take l.name-index l.names);
}
