use Rattle.std.proofs.Common.{get_or, arith}
use Rattle.std.proofs.KnownBytes.{Consumes-trans}
use Rattle.s6_replay.proofs.HeadRead.{one_byte}
use Rattle.s6_replay.proofs.line.read_line.Goals as goal

pub returns-in-Ok-clause-ok : goal.returns-in-Ok-clause-ok
returns-in-Ok-clause-ok g c = (
  c.loop-reader.invariant.part.plain,
  omega (arith, c.loop-reader.invariant.part.within),
  (
    get_or c.read.new.buf 0 0,
    Consumes-trans _ _ _ _ _ c.loop-reader.invariant.consumed
        (rw (one_byte c.read.new.buf c.in-Ok.field-0 (omega arith) (omega arith)) at c.in-Ok.ensures.bytes.0),
  ),
)
