use Rattle.std.proofs.Common.{◌≡◌, take}
use Rattle.tool_lines.specs.Tables.{width_of}
use Rattle.tool_lines.proofs.table.width_of.Given as goal

abbrev pub invariant-loop-entry : goal.invariant-loop-entry
invariant-loop-entry l = (l.width ≡ width_of (take l.entry-index l.entries) l.column)
