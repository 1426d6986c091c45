use Rattle.std.proofs.Common.{arith}
use Rattle.s6_script.specs.DeathList.{IsItem}
use Rattle.s6_script.proofs.Items.{one_more, all_of_them}
use Rattle.s6_script.proofs.act_limits.are_items.Goals as goal

pub loop-item-preserved : goal.loop-item-preserved
loop-item-preserved c =
    one_more IsItem c.args.items.now c.loop-item.item-index _ (omega arith) c.loop-item.invariant (rw c.if-not-is_item.false at c.is_item.ensures)

pub returns : goal.returns
returns c = all_of_them IsItem c.args.items.now c.loop-item.item-index (omega arith) c.loop-item.invariant
