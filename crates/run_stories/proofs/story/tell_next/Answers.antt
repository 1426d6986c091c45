use Rattle.s6_replay.specs.Turn.{text_in}
use Rattle.run_stories.proofs.Runs.{untold}
use Rattle.run_stories.proofs.story.tell_next.Goals as goal

pub returns-in-Err-clause-fault : goal.returns-in-Err-clause-fault
returns-in-Err-clause-fault g c =
    let read = rw c.if-not-found.false at c.in_ok-found.ensures.ok in
    untold _ c.in-Err.fault c.args.version c.args.done _ _
    (record { input = c.read_step.new.scratch.input; reply = text_in c.read_step.new.scratch.reply.items }) _ _ _ c.requires read.0 read.1 read.2
    c.in-Err.ensures.fault
