use Rattle.std.proofs.Common.{◌∙◌, sym, rules}
use Rattle.std.proofs.Common.{◌≡◌}
use Rattle.svscan_core.specs.Table.{without_name}
use Rattle.svscan_core.specs.SlotFields.{services_in, AreHeld}
use Rattle.svscan_core.proofs.Removed.{held_named, removes, without-absent}
use Rattle.svscan_core.proofs.slots.Slots.remove.Given.{Over}
use Rattle.svscan_core.proofs.slots.Slots.remove.Goals as goal

removed : (g : Over) (c : goal.After-empty_slot g) → (services_in c.empty_slot.new.slots c.shift_remove.new.self.entries
    ≡ without_name (services_in c.self.inside.slots c.self.inside.index.entries) c.args.name)
    × AreHeld c.empty_slot.new.slots c.shift_remove.new.self.entries
removed g c =
    let at = sym c.in-Some.ensures.value in
    let s = held_named c.self.inside.slots c.self.inside.index.entries c.args.name c.in-Some.slot c.self.invariant at in
    rw c.in-Some.ensures.entries
    (removes c.self.inside.slots c.empty_slot.new.slots c.in-Some.slot s.0 c.args.name c.self.inside.index.entries c.empty_slot.ensures.updates
    s.1 s.2 at c.len-count.ensures.unique c.self.invariant)

pub invariant_of-self : goal.invariant_of-self
invariant_of-self g c = (removed g c).1

pub returns-in-Some-clause-services : goal.returns-in-Some-clause-services
returns-in-Some-clause-services g c = rw (← c.self.view_is) (removed g c).0

pub returns-in_default-clause-services : goal.returns-in_default-clause-services
returns-in_default-clause-services g c =
    let none : c.shift_remove.new.self.entries ≡ c.self.inside.index.entries = search rules in
    rw (← c.self.view_is, none)
    (sym (without-absent c.self.inside.slots c.self.inside.index.entries c.args.name c.self.invariant
    (sym c.shift_remove.ensures.value ∙ c.in_default.is)))
