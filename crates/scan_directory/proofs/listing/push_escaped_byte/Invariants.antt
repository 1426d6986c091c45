use Rattle.std.proofs.Common.{◌≡◌, ◌++◌}
use Rattle.std.specs.Char.Escape.{escape_ascii}
use Rattle.std.specs.Char.Iter.{escape_byte_rest}
use Rattle.scan_directory.proofs.listing.push_escaped_byte.Given as goal

abbrev pub invariant-loop-escaped : goal.invariant-loop-escaped
invariant-loop-escaped l = (l.line.items ++ escape_byte_rest l.escaped-iterator ≡ l.fn.line.items ++ escape_ascii l.byte)
