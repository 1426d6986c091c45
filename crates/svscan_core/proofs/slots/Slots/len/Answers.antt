use Rattle.std.proofs.Common.{◌∙◌, sym, ap}
use Rattle.std.specs.Map.{keys_of}
use Rattle.svscan_core.specs.Names.{repeats_name}
use Rattle.svscan_core.proofs.Held.{length-services_in, names_held, distinct_names}
use Rattle.svscan_core.proofs.slots.Slots.len.Goals as goal

pub returns-clause-count : goal.returns-clause-count
returns-clause-count g c =
    rw (← c.self.view_is) (c.len.ensures.len ∙ sym (length-services_in c.self.inside.slots c.self.inside.index.entries c.self.invariant))

pub returns-clause-names : goal.returns-clause-names
returns-clause-names g c =
    rw (← c.self.view_is)
    (ap repeats_name (names_held c.self.inside.slots c.self.inside.index.entries c.self.invariant)
    ∙ distinct_names (keys_of c.self.inside.index.entries) c.len.ensures.unique)
