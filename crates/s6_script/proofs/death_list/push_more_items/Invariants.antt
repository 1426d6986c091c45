use Rattle.std.proofs.Common.{◌≡◌, ◌++◌, ◌∷◌, take}
use Rattle.std.specs.List.{flat_map}
use Rattle.s6_script.specs.DeathList.{item_text}
use Rattle.s6_script.proofs.death_list.push_more_items.Given as goal

abbrev pub invariant-loop-item : goal.invariant-loop-item
invariant-loop-item g l = l.text.items ≡ l.fn.text.items ++ flat_map (λ item. 44 ∷ item_text item) (take l.item-index l.items)
