use Rattle.std.proofs.Common.{◌≡◌, map, take}
use Rattle.tool_lines.specs.Tables.{padded_columns, sized_column}
use Rattle.tool_lines.proofs.table.size_columns.Given as goal

abbrev pub invariant-loop-column : goal.invariant-loop-column
invariant-loop-column l = (l.columns.items ≡ map (sized_column l.entries) (take l.column-index padded_columns))
