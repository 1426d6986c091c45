use Rattle.std.proofs.Common.{◌≡◌, ℕ, ◌++◌, List, drop}
use Rattle.step_codes.specs.ListCodes.{items_onto, list_onto, AllFit}
use Rattle.step_codes.proofs.lists.push_list.Given as goal

abbrev pub invariant-loop-item : goal.invariant-loop-item
invariant-loop-item g l =
    ((rest : List ℕ) → l.code.items ++ items_onto g.T.Coded.onto (drop l.item-index l.items) rest
    ≡ l.fn.code.items ++ list_onto g.T.Coded.onto l.items rest)
    × (AllFit g.T.Coded.fits (drop l.item-index l.items) → AllFit g.T.Coded.fits l.items)
