use Rattle.std.proofs.Common.{arith}
use Rattle.std.proofs.Math.Seq.{take-add}
use Rattle.std.proofs.lemmas.List.{length-drop, take_rest}
use Rattle.std.proofs.KnownBytes.{Appends-trans}
use Rattle.s6_script.proofs.writing.write_whole.Goals as goal

pub loop-at-preserved : goal.loop-at-preserved
loop-at-preserved g c = record {
  within = omega (arith, c.in-Ok.ensures.bound, length-drop c.loop-at.at c.args.bytes.now);
  written = rw (take-add c.loop-at.at c.in-Ok.n c.args.bytes.now)
      (Appends-trans _ _ _ _ _ c.loop-at.invariant.written (rw take_rest at c.in-Ok.ensures.bytes));
}
