use Rattle.std.proofs.Common.{rules}
use Rattle.svscan_core.proofs.Held.{services_in-named}
use Rattle.svscan_core.proofs.slots.Slots.find.Goals as goal

pub returns-in_err-slot : goal.returns-in_err-slot
returns-in_err-slot g c =
    rw (
      ← c.self.view_is,
      services_in-named c.self.inside.slots c.self.inside.index.entries c.args.name.now c.self.invariant,
      ←
          c.in_err-slot.ensures.value,
    ) (search rules)

pub returns : goal.returns
returns g c =
    rw (
      ← c.self.view_is,
      services_in-named c.self.inside.slots c.self.inside.index.entries c.args.name.now c.self.invariant,
      ←
          c.in_ok-slot.ensures.value,
    ) c.get-2.ensures
