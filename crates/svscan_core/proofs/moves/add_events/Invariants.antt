use Rattle.std.proofs.Common.{◌≡◌, ◌++◌, map, take}
use Rattle.svscan_core.specs.Moves.{service_mark}
use Rattle.svscan_core.proofs.moves.add_events.Given as goal

abbrev pub invariant-loop-mark : goal.invariant-loop-mark
invariant-loop-mark g l = l.events.items ≡ l.fn.events.items ++ map (service_mark l.sid) (take l.mark-index l.marks)
