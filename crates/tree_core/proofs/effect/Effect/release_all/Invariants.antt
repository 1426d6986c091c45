use Rattle.std.proofs.Common.{◌≡◌, ◌++◌, take, map}
use Rattle.tree_core.specs.Listening.{as_release}
use Rattle.tree_core.proofs.effect.Effect.release_all.Given as goal

abbrev pub invariant-loop-pair : goal.invariant-loop-pair
invariant-loop-pair g l = record {
  reply : l.self.reply ≡ l.fn.self.reply;
  events : l.self.events.items ≡ l.fn.self.events.items;
  orders : l.self.orders.items ≡ l.fn.self.orders.items;
  matched : l.self.matched.items ≡ l.fn.self.matched.items;
  released : l.self.released.items ≡ l.fn.self.released.items ++ map as_release (take l.pair-index l.plan.released);
}
