use Rattle.std.proofs.Common.{◌≡◌, take}
use Rattle.svscan_core.specs.Listing.{names_in}
use Rattle.svscan_core.specs.Names.{repeats_name}
use Rattle.svscan_core.proofs.Repeats.{AreKnown}
use Rattle.svscan_core.proofs.listing.has_repeats.Given as goal

abbrev pub invariant-loop-entry : goal.invariant-loop-entry
invariant-loop-entry g l = record {
  known : AreKnown l.names.keys (take l.entry-index (names_in l.listing));
  repeats : l.repeats ≡ repeats_name (take l.entry-index (names_in l.listing));
}
