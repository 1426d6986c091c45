use Rattle.s6_replay.specs.Turn.{text_in}
use Rattle.s6_script.specs.declared.version.Version.TheVariants.{Two}
use Rattle.s6_replay.proofs.Places.{whole_step}
use Rattle.s6_replay.proofs.checking.compare_step.Goals as goal

pub returns-in-Ok-true-clause-ok : goal.returns-in-Ok-true-clause-ok
returns-in-Ok-true-clause-ok g c =
    let read = rw c.if-not-found.false at c.in_ok-found.ensures.ok in
    let same = rw (c.in-Ok-true.field-0-test, c.as_slice.ensures.value) at c.in-Ok-true.ensures.ok in
    (record { input = c.read_step.new.scratch.input; reply = text_in c.read_step.new.scratch.reply.items }, read.0, read.2, same)

pub returns-in-Ok-false-clause-ok : goal.returns-in-Ok-false-clause-ok
returns-in-Ok-false-clause-ok g c =
    let read = rw c.if-not-found.false at c.in_ok-found.ensures.ok in
    let other = rw (c.in-Ok-false.field-0-test, c.as_slice.ensures.value) at c.in-Ok-false.ensures.ok in
    (record { input = c.read_step.new.scratch.input; reply = text_in c.read_step.new.scratch.reply.items }, read.0, read.2, other)

pub returns-in-Err-clause-fault : goal.returns-in-Err-clause-fault
returns-in-Err-clause-fault g c =
    let read = rw c.if-not-found.false at c.in_ok-found.ensures.ok in
    rw c.in-Err.ensures.fault (whole_step Two c.args.done
    (record { input = c.read_step.new.scratch.input; reply = text_in c.read_step.new.scratch.reply.items }) _ _ c.requires read.0 read.1 read.2)
