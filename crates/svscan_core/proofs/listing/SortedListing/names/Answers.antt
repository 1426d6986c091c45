-- The map gives its names in order.
use Rattle.std.proofs.Common.{◌∙◌, sym}
use Rattle.std.proofs.lemmas.Iterator.{items_from_collect}
use Rattle.std.proofs.lemmas.Iterator.Consumers.{YieldsList-at, YieldsList-from_copied, YieldsList-from_rest}
use Rattle.svscan_core.specs.Listing.{names_in}
use Rattle.svscan_core.specs.SortedListing.{entries_in}
use Rattle.svscan_core.proofs.Sorting.{names_found}
use Rattle.svscan_core.proofs.listing.SortedListing.names.Goals as goal

pub returns : goal.returns
returns g c =
    let found = c.self.inside.found.entries in
    rw (← c.self.view_is) (items_from_collect _ c.collect.ensures.ran
    (YieldsList-from_copied (YieldsList-at c.copied.ensures.source
    (YieldsList-from_rest (names_in (entries_in found)) (c.keys.ensures.rest ∙ sym (names_found found))))))
