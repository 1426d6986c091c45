use Rattle.std.proofs.Common.{◌≡◌, ◌∙◌, ◌++◌, ◌∷◌, [], None, bytes_eq}
use Rattle.std.specs.Map.{lookup}
use Rattle.indexmap.proofs.CallerLemmas.{insert_entry-new}
use Rattle.svscan_core.specs.SlotFields.{services_in, AreHeld}
use Rattle.svscan_core.proofs.Held.{adds, absent}
use Rattle.svscan_core.proofs.slots.Slots.add.Given.{Over}
use Rattle.svscan_core.proofs.slots.Slots.add.Goals as goal

added : (g : Over) (c : goal.After-unwrap-old g) → (services_in c.insert_reserved-slot.new.self c.insert.new.self.entries
    ≡ services_in c.self.inside.slots c.self.inside.index.entries ++ c.args.service ∷ [])
    × AreHeld c.insert_reserved-slot.new.self c.insert.new.self.entries
added g c =
    let ps = c.self.inside.index.entries in
    let name = c.args.service.chart.name in
    let none : lookup (bytes_eq name) ps ≡ None =
    absent c.self.inside.slots ps name c.self.invariant (rw (← c.self.view_is) at c.requires.absent) in
    let entries = rw (c.unwrap-old.ensures, c.chart-name.ensures) at c.insert.ensures.entries in
    let last = entries ∙ insert_entry-new bytes_eq c.self.inside.index name c.insert_reserved-slot.result none in
    let slot = c.insert_reserved-slot.ensures in
    adds c.self.inside.slots c.insert_reserved-slot.new.self ps c.insert.new.self.entries c.insert_reserved-slot.result c.args.service
    slot.updates slot.was_vacant c.self.invariant last

pub invariant_of-self : goal.invariant_of-self
invariant_of-self g c = (added g c).1

pub returns-clause-services : goal.returns-clause-services
returns-clause-services g c = rw (← c.self.view_is) (added g c).0
