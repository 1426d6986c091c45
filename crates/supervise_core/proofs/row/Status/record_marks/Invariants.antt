use Rattle.std.proofs.Common.{◌≡◌, take}
use Rattle.supervise_core.specs.Status.{status_with_all}
use Rattle.supervise_core.proofs.row.Status.record_marks.Given as goal

abbrev pub invariant-loop-mark : goal.invariant-loop-mark
invariant-loop-mark l = l.self ≡ status_with_all l.now (take l.mark-index l.marks) l.fn.self
