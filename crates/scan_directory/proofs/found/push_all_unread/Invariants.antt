use Rattle.std.proofs.Common.{◌≡◌, ◌++◌, take}
use Rattle.std.specs.List.{flat_map}
use Rattle.scan_directory.specs.Found.{unread_line}
use Rattle.scan_directory.proofs.found.push_all_unread.Given as goal

abbrev pub invariant-loop-remark : goal.invariant-loop-remark
invariant-loop-remark l = (l.text.items ≡ l.fn.text.items ++ flat_map unread_line (take l.remark-index l.unread))
