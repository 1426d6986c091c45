use Rattle.std.proofs.Common.{◌≡◌, ◌≤◌, ◌++◌, length}
use Rattle.std.specs.Vec.Iter.{drain_items, DrainKeeps}
use Rattle.svscan_core.proofs.slots.Slots.add_all.Given as goal

abbrev pub invariant-loop-service : goal.invariant-loop-service
invariant-loop-service g l =
    (goal.iterator-loop-service g).can_next l.service-iterator
    × (goal.iterator-loop-service g).is_finite l.service-iterator
    × DrainKeeps l.initial.service-iterator l.service-iterator
    × (l.self.services ++ drain_items l.service-iterator ≡ l.fn.self.services ++ l.fn.added.items)
    × (length (drain_items l.service-iterator) ≤ l.self.room)
