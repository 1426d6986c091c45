use Rattle.std.proofs.Common.{◌≡◌, ◌≤◌, ◌+◌, ◌++◌, map, length, vec_capacity}
use Rattle.std.specs.Vec.Iter.{into_iter_items}
use Rattle.order_lanes.specs.Desk.{DeskView}
use Rattle.locked_services.proofs.serving.backends_of.Given as goal

abbrev pub invariant-loop-desk : goal.invariant-loop-desk
invariant-loop-desk g l =
    (map g.B.Backend.asked l.backends.items ++ map {A = DeskView} (λ d. d.asked) (into_iter_items l.desk-iterator)
    ≡ map {A = DeskView} (λ d. d.asked) l.fn.desks.items)
    × (length l.backends.items + length (into_iter_items l.desk-iterator) ≤ vec_capacity l.backends)
