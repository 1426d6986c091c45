use Rattle.std.proofs.Common.{◌∙◌, sym, ap}
use Rattle.svscan_core.proofs.Sorting.{read_of, read_found}
use Rattle.svscan_core.proofs.listing.SortedListing.config_of.Goals as goal

pub returns-in-Some : goal.returns-in-Some
returns-in-Some g c =
    rw (← c.self.view_is) (ap read_of c.in-Some.ensures.value ∙ sym (read_found c.args.name.now c.self.inside.found.entries))

pub returns-in-None : goal.returns-in-None
returns-in-None g c =
    rw (← c.self.view_is) (ap read_of c.in-None.ensures.value ∙ sym (read_found c.args.name.now c.self.inside.found.entries))
