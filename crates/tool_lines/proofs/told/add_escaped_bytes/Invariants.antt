use Rattle.std.proofs.Common.{◌≡◌, ◌++◌, take}
use Rattle.std.specs.List.{flat_map}
use Rattle.tool_lines.specs.Told.{escaped_byte}
use Rattle.tool_lines.proofs.told.add_escaped_bytes.Given as goal

abbrev pub invariant-loop-byte : goal.invariant-loop-byte
invariant-loop-byte l = (l.told.items ≡ l.fn.told.items ++ flat_map escaped_byte (take l.byte-index l.bytes))
