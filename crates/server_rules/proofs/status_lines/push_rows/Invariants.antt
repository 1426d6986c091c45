use Rattle.std.proofs.Common.{◌≡◌, ◌++◌, take}
use Rattle.std.specs.List.{flat_map}
use Rattle.server_rules.specs.Status.{row_line}
use Rattle.server_rules.proofs.status_lines.push_rows.Given as goal

abbrev pub invariant-loop-row : goal.invariant-loop-row
invariant-loop-row l = (l.text.items ≡ l.fn.text.items ++ flat_map row_line (take l.row-index l.rows))
