use Rattle.std.proofs.Common.{◌≡◌, take}
use Rattle.std.specs.List.{flat_map}
use Rattle.tool_lines.specs.JsonLines.{json_line}
use Rattle.tool_lines.proofs.json_line.json_lines.Given as goal

abbrev pub invariant-loop-entry : goal.invariant-loop-entry
invariant-loop-entry l = (l.text.items ≡ flat_map json_line (take l.entry-index l.entries))
