use Rattle.std.proofs.Common.{◌∙◌, ap, sym, subst}
use Rattle.wait_conditions.specs.NextDeadline.{earlier_of}
use Rattle.tree_core.specs.Machine.{watch_of}
use Rattle.tree_core.specs.NextDue.{next_timer}
use Rattle.tree_core.specs.StandsFor.{StoredTree, StandsFor}
use Rattle.tree_core.proofs.tree.Tree.next_due.Goals as goal

pub returns : goal.returns
returns g c = λ m stands.
    let s : StandsFor _ m = subst (λ (t : StoredTree). StandsFor t m) (sym c.self.view_is) stands in
    c.earlier_of.ensures
    ∙ (ap (λ one. earlier_of one c.next_deadline.result) (c.next_timer.ensures ∙ ap next_timer (sym s.services))
    ∙ ap (earlier_of (next_timer m.services)) (c.next_deadline.ensures (watch_of m) s.waiting))
