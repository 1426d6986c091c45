use Rattle.std.proofs.Common.{◌∙◌, ◌&&◌, ap, sym, subst}
use Rattle.std.specs.List.{list_all}
use Rattle.supervise_core.specs.ChartState.{is_gone}
use Rattle.tree_core.specs.StandsFor.{StoredTree, StandsFor}
use Rattle.tree_core.proofs.tree.Tree.ended.Goals as goal

pub returns-then-self : goal.returns-then-self
returns-then-self g c = λ m stands.
    let s : StandsFor _ m = subst (λ (t : StoredTree). StandsFor t m) (sym c.self.view_is) stands in
    c.are_gone.ensures
    ∙ (ap (list_all (λ x. is_gone x.phase)) (sym s.services)
    ∙ sym (ap (λ b. b && list_all (λ x. is_gone x.phase) m.services) (s.closing ∙ c.if-self.true)))

pub returns-else-self : goal.returns-else-self
returns-else-self g c = λ m stands.
    let s : StandsFor _ m = subst (λ (t : StoredTree). StandsFor t m) (sym c.self.view_is) stands in
    c.if-self.false
    ∙ sym (ap (λ b. b && list_all (λ x. is_gone x.phase) m.services) (s.closing ∙ c.if-self.false))
