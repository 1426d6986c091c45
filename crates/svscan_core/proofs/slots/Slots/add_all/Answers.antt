use Rattle.std.proofs.Common.{◌++◌}
use Rattle.std.specs.Vec.Iter.{drain_items}
use Rattle.svscan_core.proofs.NewNames.{next_is_new}
use Rattle.svscan_core.proofs.slots.Slots.add_all.Goals as goal

pub add-requires-clause-absent : goal.add-requires-clause-absent
add-requires-clause-absent g c =
    next_is_new c.loop-service.self.services (drain_items c.loop-service.service-iterator) c.in-Some.service (drain_items c.next.new.self)
    (c.args.self.now.services ++ c.args.added.now.items) c.in-Some.ensures.steps.0 c.loop-service.invariant.3 c.requires.names
