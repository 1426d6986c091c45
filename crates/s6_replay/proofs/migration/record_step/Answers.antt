use Rattle.s6_replay.specs.Turn.{text_in}
use Rattle.s6_replay.proofs.Migrations.{record_stops}
use Rattle.s6_replay.proofs.migration.record_step.Goals as goal

pub returns-in-Ok-clause-ok : goal.returns-in-Ok-clause-ok
returns-in-Ok-clause-ok g c =
    let read = rw c.if-not-found.false at c.in_ok-found.ensures.ok in
    (record { input = c.read_step.new.scratch.input; reply = text_in c.read_step.new.scratch.reply.items }, read.0, read.2, c.in-Ok.ensures.ok)

pub returns-in-Err-clause-fault : goal.returns-in-Err-clause-fault
returns-in-Err-clause-fault g c =
    let read = rw c.if-not-found.false at c.in_ok-found.ensures.ok in
    record_stops _ c.in-Err.fault c.args.done _
    (record { input = c.read_step.new.scratch.input; reply = text_in c.read_step.new.scratch.reply.items }) _ _ _ _
    c.requires read.0 read.1 read.2 c.in-Err.ensures.fault
