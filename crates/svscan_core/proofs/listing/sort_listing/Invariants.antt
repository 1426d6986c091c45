use Rattle.std.proofs.Common.{◌≡◌, take}
use Rattle.svscan_core.specs.Listing.{names_in, in_byte_order}
use Rattle.svscan_core.specs.SortedListing.{entries_in, AreAlike}
use Rattle.svscan_core.proofs.listing.sort_listing.Given as goal

abbrev pub invariant-loop-entry : goal.invariant-loop-entry
invariant-loop-entry g l = record {
  names : names_in (entries_in l.found.entries) ≡ in_byte_order (take l.entry-index (names_in l.listing));
  alike : AreAlike (entries_in l.found.entries) (take l.entry-index l.listing);
}
