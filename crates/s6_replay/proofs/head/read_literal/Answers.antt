use Rattle.std.proofs.Common.{◌≡◌, get_or, arith}
use Rattle.s6_replay.proofs.HeadRead.{one_byte, ended_early, differs, read_more}
use Rattle.s6_replay.proofs.head.read_literal.Goals as goal

pub returns-in-Ok-eq0-clause-fault : goal.returns-in-Ok-eq0-clause-fault
returns-in-Ok-eq0-clause-fault g c = λ rest e.
    let none : c.in-Ok-eq0.field-0 ≡ 0 = omega arith in
    let read = rw none at c.in-Ok-eq0.ensures.bytes in
    ended_early _ _ _ c.loop-want.want-index c.args.text.now rest c.loop-want.invariant read.0 (read.1 (omega arith) (omega arith)) (omega arith) e

pub returns-then-byte-want-clause-fault : goal.returns-then-byte-want-clause-fault
returns-then-byte-want-clause-fault g c = λ rest e.
    let read = rw (one_byte c.read.new.buf c.in-Ok.field-0 (omega arith) (omega arith)) at c.in-Ok.ensures.bytes.0 in
    differs _ _ _ c.loop-want.want-index (get_or c.read.new.buf 0 0) c.args.text.now rest c.loop-want.invariant read
    (omega arith) c.if-byte-want.true e

pub loop-want-preserved : goal.loop-want-preserved
loop-want-preserved g c =
    let read = rw (one_byte c.read.new.buf c.in-Ok.field-0 (omega arith) (omega arith)) at c.in-Ok.ensures.bytes.0 in
    read_more _ _ _ c.loop-want.want-index (get_or c.read.new.buf 0 0) c.args.text.now c.loop-want.invariant read (omega arith) c.if-byte-want.false
