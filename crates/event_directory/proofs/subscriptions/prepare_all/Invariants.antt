use Rattle.std.proofs.Common.{◌≡◌, ◌≤◌, length, take, drop, map}
use Rattle.std.specs.List.{filter_map}
use Rattle.event_directory.specs.Stored.{greatest_offset, hit_of_reader, next_reader, planned_standing, prepared_standing, standing_of_stored}
use Rattle.event_directory.proofs.subscriptions.prepare_all.Given as goal

abbrev pub invariant-loop-subscription : goal.invariant-loop-subscription
invariant-loop-subscription g l = record {
  same : map standing_of_stored l.subscriptions ≡ map standing_of_stored l.fn.subscriptions;
  planned : map planned_standing l.subscriptions ≡ map planned_standing l.fn.subscriptions;
  within : greatest_offset (map prepared_standing l.subscriptions) ≤ length l.text;
  rest : drop l.subscription-index l.subscriptions ≡ drop l.subscription-index l.fn.subscriptions;
  done : map prepared_standing (take l.subscription-index l.subscriptions)
      ≡ map (next_reader g.F.Finds.test l.letter l.text) (map prepared_standing (take l.subscription-index l.fn.subscriptions));
  hits : l.hits.items
      ≡ filter_map (hit_of_reader g.F.Finds.test l.letter l.text) (map prepared_standing (take l.subscription-index l.fn.subscriptions));
}
