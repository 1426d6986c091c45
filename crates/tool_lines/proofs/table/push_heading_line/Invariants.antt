use Rattle.std.proofs.Common.{◌≡◌, ◌++◌, take}
use Rattle.std.specs.List.{flat_map}
use Rattle.tool_lines.specs.Tables.{heading, padded}
use Rattle.tool_lines.proofs.table.push_heading_line.Given as goal

abbrev pub invariant-loop-sized : goal.invariant-loop-sized
invariant-loop-sized l =
    (l.text.items ≡ l.fn.text.items ++ flat_map (λ s. padded s.width (heading s.column)) (take l.sized-index l.columns))
