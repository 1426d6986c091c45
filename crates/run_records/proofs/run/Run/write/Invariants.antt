use Rattle.std.proofs.Common.{take}
use Rattle.std.specs.Io.KnownBytes.{Appends}
use Rattle.run_records.specs.RunText.{AllFit, run_text}
use Rattle.run_records.proofs.run.Run.write.Given as goal

-- the steps before this one are written
abbrev pub invariant-loop-place : goal.invariant-loop-place
invariant-loop-place g l = record {
  written : Appends (g.W.Write.contents l.fn.writer) (g.W.Write.contents l.writer) (run_text l.fn.head (take l.place l.self.steps));
  fit : AllFit (take l.place l.self.steps);
}
