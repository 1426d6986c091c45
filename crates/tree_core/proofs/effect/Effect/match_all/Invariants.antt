use Rattle.std.proofs.Common.{◌≡◌, ◌++◌, take, map}
use Rattle.tree_core.specs.Listening.{as_match}
use Rattle.tree_core.proofs.effect.Effect.match_all.Given as goal

abbrev pub invariant-loop-subscription : goal.invariant-loop-subscription
invariant-loop-subscription g l = record {
  reply : l.self.reply ≡ l.fn.self.reply;
  events : l.self.events.items ≡ l.fn.self.events.items;
  orders : l.self.orders.items ≡ l.fn.self.orders.items;
  matched : l.self.matched.items ≡ l.fn.self.matched.items ++ map as_match (take l.subscription-index l.plan.matches.items);
  released : l.self.released.items ≡ l.fn.self.released.items;
}
