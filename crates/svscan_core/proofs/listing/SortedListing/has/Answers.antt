use Rattle.std.proofs.Common.{◌∙◌, sym}
use Rattle.svscan_core.proofs.Sorting.{has_found}
use Rattle.svscan_core.proofs.listing.SortedListing.has.Goals as goal

pub returns : goal.returns
returns g c = rw (← c.self.view_is) (c.contains_key.ensures ∙ sym (has_found c.args.name.now c.self.inside.found.entries))
