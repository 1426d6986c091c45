use Rattle.std.proofs.Common.{◌≡◌, ◌++◌, take}
use Rattle.std.specs.List.{flat_map}
use Rattle.tool_lines.specs.Tables.{row_line}
use Rattle.tool_lines.proofs.table.push_entry_lines.Given as goal

abbrev pub invariant-loop-entry : goal.invariant-loop-entry
invariant-loop-entry l = (l.text.items ≡ l.fn.text.items ++ flat_map (row_line l.columns) (take l.entry-index l.entries))
