use Rattle.std.proofs.Common.{rules, List, [], ◌∷◌, sym, subst, ◌∙◌}
use Rattle.std.specs.declared.alloc.Global.{Global}
use mathlib.Core.List.{IsPrefix}
use Rattle.tree_core.specs.declared.input.Input.{Input}
use Rattle.run_history.proofs.Moves.{extends_as}
use Rattle.run_history.proofs.history.WholeHistory.extend.Goals as goal

pub swap_as-requires : goal.swap_as-requires
swap_as-requires g c =
    let i = c.self.invariant in
    let longer = subst (λ (l : List (Input Global)). IsPrefix l g.N.Whole.whole) (sym c.self.view_is) c.requires.longer in
    (search rules, (search rules, (i.1 ∙ sym i.0, extends_as _ _ _ _ (0 ∷ []) i.2 longer)))
