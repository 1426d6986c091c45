use Rattle.std.proofs.Common.{◌≡◌, ℕ, ◌<◌, ◌^◌, ◌++◌, List, length, take, drop}
use Rattle.step_codes.specs.ListCodes.{items_onto, list_onto, AllFit}
use Rattle.step_codes.proofs.lists.take_list.Given as goal

abbrev pub invariant-loop : goal.invariant-loop
invariant-loop g l =
    (items : List g.row.T.Denot) (rest : List ℕ) → length items < 2 ^ 64 → AllFit g.T.Coded.fits items
    → l.fn.code ≡ list_onto g.T.Coded.onto items rest
    → (l.count ≡ length items) × (l.into.items ≡ l.fn.into.items ++ take l.counter items)
    × (l.code ≡ items_onto g.T.Coded.onto (drop l.counter items) rest)
