use Rattle.std.proofs.Common.{List}
use Rattle.s6_script.specs.Script.{Recorded}
use Rattle.s6_replay.proofs.Runs.{RunsTo}
use Rattle.s6_replay.proofs.replay.replay_all.Given as goal

abbrev pub invariant-loop-done : goal.invariant-loop-done
invariant-loop-done g l =
    (steps : List (Recorded g.row.A.Denot))
    × RunsTo l.version (g.R.Read.remaining l.fn.reader) (g.R.Read.remaining l.reader) (g.W.Write.contents l.fn.writer)
    (g.W.Write.contents l.writer) l.tree l.done l.counts steps
