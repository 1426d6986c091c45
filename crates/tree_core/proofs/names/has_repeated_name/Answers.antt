use Rattle.std.proofs.Common.{◌∙◌}
use Rattle.svscan_core.proofs.ListingOrder.{order_more, repeats_more}
use Rattle.tree_core.proofs.names.has_repeated_name.Goals as goal

pub loop-name-preserved : goal.loop-name-preserved
loop-name-preserved g c = record {
  names = c.in_ok-repeats.ensures.keys ∙ order_more c.args.names.now c.loop-name.name-index c.name-item.result c.loop-name.set.keys
      c.loop-name-test.true c.name-item.is c.loop-name.invariant.names;
  repeats =
      repeats_more c.args.names.now c.loop-name.name-index c.name-item.result c.loop-name.set.keys c.loop-name.repeats c.in_ok-repeats.field-0
      c.loop-name-test.true c.name-item.is c.loop-name.invariant.names c.loop-name.invariant.repeats c.in_ok-repeats.ensures.added;
}
