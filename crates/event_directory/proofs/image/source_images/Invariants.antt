use Rattle.std.proofs.Common.{◌≡◌, map, take}
use Rattle.event_directory.specs.Parts.{followed_of}
use Rattle.event_directory.proofs.image.source_images.Given as goal

abbrev pub invariant-loop-directory : goal.invariant-loop-directory
invariant-loop-directory g l = l.images.items ≡ map followed_of (take l.directory-index l.listened)
