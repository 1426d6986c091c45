use Rattle.std.proofs.Common.{◌≡◌, ◌++◌, take}
use Rattle.std.specs.List.{flat_map}
use Rattle.scan_directory.specs.Found.{noted_as}
use Rattle.scan_directory.proofs.noting.push_notes.Given as goal

abbrev pub invariant-loop-note : goal.invariant-loop-note
invariant-loop-note l = (l.notes.items ≡ l.fn.notes.items ++ flat_map (noted_as l.name) (take l.note-index l.found))
