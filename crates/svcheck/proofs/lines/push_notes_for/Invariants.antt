use Rattle.std.proofs.Common.{◌≡◌, ◌++◌, take}
use Rattle.std.specs.List.{flat_map}
use Rattle.svcheck.specs.Lines.{line_for}
use Rattle.svcheck.proofs.lines.push_notes_for.Given as goal

abbrev pub invariant-loop-noted : goal.invariant-loop-noted
invariant-loop-noted l = (l.text.items ≡ l.fn.text.items ++ flat_map (line_for l.name l.descriptor) (take l.noted-index l.notes))
