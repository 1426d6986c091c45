use Rattle.std.proofs.Common.{◌≡◌, take, drop, map}
use Rattle.event_directory.specs.Stored.{planned_standing, prepared_standing, standing_of_stored}
use Rattle.event_directory.proofs.subscriptions.exchange_all.Given as goal

abbrev pub invariant-loop-subscription : goal.invariant-loop-subscription
invariant-loop-subscription g l = record {
  same : map standing_of_stored l.subscriptions ≡ map standing_of_stored l.fn.subscriptions;
  rest : drop l.subscription-index l.subscriptions ≡ drop l.subscription-index l.fn.subscriptions;
  prepared : map prepared_standing (take l.subscription-index l.subscriptions)
      ≡ map planned_standing (take l.subscription-index l.fn.subscriptions);
  planned : map planned_standing (take l.subscription-index l.subscriptions) ≡ map prepared_standing (take l.subscription-index l.fn.subscriptions);
}
