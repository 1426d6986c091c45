use Rattle.std.proofs.Common.{◌≡◌, take}
use Rattle.wait_conditions.specs.WaitsFields.{waiters_view}
use Rattle.wait_conditions.proofs.image.images_of.Given as goal

abbrev pub invariant-loop-waiter : goal.invariant-loop-waiter
invariant-loop-waiter g l = l.images.items ≡ waiters_view (take l.waiter-index l.waiters)
