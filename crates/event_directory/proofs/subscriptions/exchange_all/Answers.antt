use Rattle.std.proofs.Common.{arith}
use Rattle.event_directory.specs.Stored.{standing_of_stored}
use Rattle.event_directory.proofs.Walk.{walk_planned_now, walk_prepared_now, walk_same, walk_rest}
use Rattle.event_directory.proofs.subscriptions.exchange_all.Goals as goal

pub loop-subscription-preserved : goal.loop-subscription-preserved
loop-subscription-preserved g c = record {
  same = walk_same standing_of_stored c.loop-subscription.subscriptions _ c.loop-subscription.subscription-index _ c.subscription-item.result
      (omega arith)
      c.loop-subscription.invariant.same c.exchange.ensures.same;
  rest = walk_rest c.loop-subscription.subscriptions c.args.subscriptions.now c.loop-subscription.subscription-index _
      c.loop-subscription.invariant.rest;
  prepared = walk_prepared_now c.loop-subscription.subscriptions _ c.loop-subscription.subscription-index _ c.subscription-item.result (omega arith)
      c.loop-subscription.invariant.rest c.loop-subscription.invariant.prepared c.exchange.ensures.same c.exchange.ensures.prepared;
  planned = walk_planned_now c.loop-subscription.subscriptions _ c.loop-subscription.subscription-index _ c.subscription-item.result (omega arith)
      c.loop-subscription.invariant.rest c.loop-subscription.invariant.planned c.exchange.ensures.same c.exchange.ensures.planned;
}
