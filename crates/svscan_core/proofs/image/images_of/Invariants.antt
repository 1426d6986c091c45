use Rattle.std.proofs.Common.{◌≡◌, take}
use Rattle.svscan_core.proofs.image.images_of.Given as goal

abbrev pub invariant-loop-place : goal.invariant-loop-place
invariant-loop-place g l = l.images.items ≡ take l.place l.slots.services
