use Rattle.std.proofs.Common.{◌≡◌, ◌+◌, ◌++◌, List, length, vec_capacity}
use Rattle.office.specs.Changed.{ComeOf}
use Rattle.office.proofs.closing.change_each.Given as goal

-- how many there are yet, and what came of those that went before
abbrev pub invariant-loop : goal.invariant-loop
invariant-loop g l =
    (length l.items.items + l.counter ≡ length l.fn.items.items) × (length l.changed.items ≡ l.counter)
    × (vec_capacity l.items ≡ vec_capacity l.fn.items) × (vec_capacity l.changed ≡ vec_capacity l.fn.room)
    × ((done : List g.row.T.Denot) × (l.fn.items.items ≡ done ++ l.items.items)
    × ComeOf (λ x y. g.F.Fn.post l.fn.change (x, tt) y) done l.changed.items)
