use Rattle.std.proofs.Common.{refl}
use Rattle.s6_replay.specs.ReadingStops.Place.{at_reply}
use Rattle.s6_replay.proofs.Places.{is_too_long, is_no_reply}
use Rattle.s6_replay.proofs.reading.read_reply.Goals as goal

pub returns-in-TooLong-clause-fault : goal.returns-in-TooLong-clause-fault
returns-in-TooLong-clause-fault g c =
    let ended = rw c.in-TooLong.is at c.in_ok-read_line.ensures.ok in
    (refl, (_, λ i. is_too_long (at_reply i) c.args.done _ _ c.requires ended.0 ended.1, ended.2.1))

pub returns-else-holds_reply-clause-fault : goal.returns-else-holds_reply-clause-fault
returns-else-holds_reply-clause-fault g c =
    let ended = rw c.in-Newline.is at c.in_ok-read_line.ensures.ok in
    let none = rw (c.if-holds_reply.false, c.as_slice.ensures.value) at c.holds_reply.ensures in
    (refl, (_, λ i. is_no_reply i c.args.done _ c.requires ended.0 ended.1 none, ended.2))
