use Rattle.std.proofs.Common.{◌≡◌, drop, map, max}
use Rattle.event_directory.specs.Stored.{greatest_offset, standing_of_stored}
use Rattle.event_directory.proofs.subscriptions.greatest_offset.Given as goal

abbrev pub invariant-loop-subscription : goal.invariant-loop-subscription
invariant-loop-subscription g l = greatest_offset (map standing_of_stored l.subscriptions)
    ≡ max l.greatest (greatest_offset (map standing_of_stored (drop l.subscription-index l.subscriptions)))
