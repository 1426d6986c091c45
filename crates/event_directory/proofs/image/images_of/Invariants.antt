use Rattle.std.proofs.Common.{◌≡◌, take}
use Rattle.event_directory.specs.Stored.{all_standing}
use Rattle.event_directory.proofs.image.images_of.Given as goal

abbrev pub invariant-loop-subscription : goal.invariant-loop-subscription
invariant-loop-subscription g l = l.images.items ≡ all_standing l.text (take l.subscription-index l.subscriptions)
