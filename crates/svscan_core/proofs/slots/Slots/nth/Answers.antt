use Rattle.std.proofs.Common.{rules}
use Rattle.svscan_core.proofs.Held.{services_in-at}
use Rattle.svscan_core.proofs.slots.Slots.nth.Goals as goal

pub returns-in_err-slot : goal.returns-in_err-slot
returns-in_err-slot g c =
    rw (
      ← c.self.view_is,
      services_in-at c.self.inside.slots c.self.inside.index.entries c.args.place c.self.invariant,
      ←
          c.in_err-slot.ensures.entry,
    ) (search rules)

pub returns : goal.returns
returns g c =
    rw (
      ← c.self.view_is,
      services_in-at c.self.inside.slots c.self.inside.index.entries c.args.place c.self.invariant,
      ←
          c.in_ok-slot.ensures.entry,
    ) c.get.ensures
