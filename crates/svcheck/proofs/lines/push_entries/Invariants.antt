use Rattle.std.proofs.Common.{◌≡◌, ◌++◌, take}
use Rattle.std.specs.List.{flat_map}
use Rattle.svcheck.specs.Lines.{entry_lines}
use Rattle.svcheck.proofs.lines.push_entries.Given as goal

abbrev pub invariant-loop-entry : goal.invariant-loop-entry
invariant-loop-entry l = (l.text.items ≡ l.fn.text.items ++ flat_map (entry_lines l.remarks l.notes) (take l.entry-index l.entries))
