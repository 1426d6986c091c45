use denote.Param.Send.{sendable}
use Rattle.std.proofs.Crossing.{crosses}
use Rattle.inbox.proofs.Crosses.{seat_send}
use Rattle.channel_tests.proofs.rings.fn.hand_in_and_take.join+arg2.Goals as goal

-- both seats may go to other threads
pub join-requires-send-F : goal.join-requires-send-F
join-requires-send-F g c κs within = search (seat_send, crosses, sendable) depth 60 fits 20000
