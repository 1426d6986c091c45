use Rattle.std.proofs.Common.{◌∙◌, sym}
use Rattle.svscan_core.proofs.Held.{any_named}
use Rattle.svscan_core.proofs.slots.Slots.has.Goals as goal

pub returns : goal.returns
returns g c =
    rw (← c.self.view_is) (c.contains_key.ensures
    ∙ sym (any_named c.self.inside.slots c.self.inside.index.entries c.args.name.now c.self.invariant))
