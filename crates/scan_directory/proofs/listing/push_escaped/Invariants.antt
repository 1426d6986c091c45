use Rattle.std.proofs.Common.{◌≡◌, ◌++◌, take}
use Rattle.std.specs.Char.Escape.{escape_ascii}
use Rattle.std.specs.List.{flat_map}
use Rattle.scan_directory.proofs.listing.push_escaped.Given as goal

abbrev pub invariant-loop-byte : goal.invariant-loop-byte
invariant-loop-byte l = (l.line.items ≡ l.fn.line.items ++ flat_map escape_ascii (take l.byte-index l.bytes))
