use Rattle.std.proofs.Common.{All, take}
use Rattle.s6_script.specs.DeathList.{IsItem}
use Rattle.s6_script.proofs.act_limits.are_items.Given as goal

abbrev pub invariant-loop-item : goal.invariant-loop-item
invariant-loop-item l = All IsItem (take l.item-index l.items)
