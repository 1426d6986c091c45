use Rattle.std.proofs.Common.{sym, subst}
use Rattle.tree_core.specs.Machine.{watch_of}
use Rattle.tree_core.specs.StandsFor.{StoredTree, StandsFor}
use Rattle.tree_core.proofs.tree.Tree.result.Goals as goal

pub returns : goal.returns
returns g c = λ m stands.
    let s : StandsFor _ m = subst (λ (t : StoredTree). StandsFor t m) (sym c.self.view_is) stands in
    c.result.ensures (watch_of m) s.waiting
