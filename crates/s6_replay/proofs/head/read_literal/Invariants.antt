use Rattle.std.proofs.Common.{take}
use Rattle.std.specs.Io.KnownBytes.{Consumes}
use Rattle.s6_replay.proofs.head.read_literal.Given as goal

abbrev pub invariant-loop-want : goal.invariant-loop-want
invariant-loop-want g l = Consumes (g.R.Read.remaining l.fn.reader) (g.R.Read.remaining l.reader) (take l.want-index l.fn.text)
