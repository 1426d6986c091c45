use denote.Param.Send.{sendable}
use Rattle.std.proofs.Crossing.{crosses}
use Rattle.inbox.proofs.Crosses.{seat_send}
use Rattle.office_tests.proofs.seats.submit_beside.Goals as goal

-- both seats may go to other threads
pub join-first-requires-send-F : goal.join-first-requires-send-F
join-first-requires-send-F g c κs within = search (seat_send, crosses, sendable) depth 60 fits 20000

-- and come back
pub join-first-requires-send-A : goal.join-first-requires-send-A
join-first-requires-send-A g c κs within = search (seat_send, crosses, sendable) depth 60 fits 20000
