use Rattle.std.proofs.Common.{◌≡◌, take, drop, map}
use Rattle.event_directory.specs.Stored.{prepared_standing, standing_of_stored}
use Rattle.event_directory.proofs.subscriptions.commit_all.Given as goal

abbrev pub invariant-loop-subscription : goal.invariant-loop-subscription
invariant-loop-subscription g l = record {
  prepared : map prepared_standing l.subscriptions ≡ map prepared_standing l.fn.subscriptions;
  rest : drop l.subscription-index l.subscriptions ≡ drop l.subscription-index l.fn.subscriptions;
  done : map standing_of_stored (take l.subscription-index l.subscriptions) ≡ map prepared_standing (take l.subscription-index l.fn.subscriptions);
}
