use Rattle.std.proofs.Common.{List}
use Rattle.s6_script.specs.Script.{Recorded}
use Rattle.s6_replay.proofs.Checks.{ChecksTo}
use Rattle.s6_replay.proofs.checking.check_all.Given as goal

abbrev pub invariant-loop-done : goal.invariant-loop-done
invariant-loop-done g l =
    (steps : List (Recorded g.row.A.Denot))
    × ChecksTo (g.R.Read.remaining l.fn.reader) (g.R.Read.remaining l.reader) l.tree l.done steps
