use Rattle.s6_replay.proofs.Places.{stops_at_reply}
use Rattle.s6_replay.proofs.reading.read_step.Goals as goal

pub returns-in-Err-clause-fault : goal.returns-in-Err-clause-fault
returns-in-Err-clause-fault g c =
    let read = rw c.if-not-found.false at c.in_ok-found.ensures.ok in
    rw c.in-Two.is (stops_at_reply _ c.args.done c.in-Err.fault c.read_input.new.input _ _ _ c.requires read.0 read.3 c.in-Err.ensures.fault)
