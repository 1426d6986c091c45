use Rattle.std.proofs.Common.{◌∙◌, sym, subst, find, bytes_eq, option_map}
use Rattle.supervise_core.specs.StatusRow.{status_row}
use Rattle.tree_core.specs.StandsFor.{StoredTree, StandsFor}
use Rattle.tree_core.proofs.tree.Tree.row.Goals as goal

pub returns : goal.returns
returns g c = λ m stands.
    let s : StandsFor _ m = subst (λ (t : StoredTree). StandsFor t m) (sym c.self.view_is) stands in
    c.row_of.ensures m.history s.agrees ∙ sym (λ i.
    option_map (status_row m.history (s.clock i)) (find (λ x. bytes_eq c.args.name x.name) (s.services i)))
