use denote.Param.Send.{sendable}
use Rattle.std.proofs.Crossing.{crosses}
use Rattle.inbox.proofs.Crosses.{seat_send}
use Rattle.channel_tests.proofs.rings.hand_in_and_take.Goals as goal

-- both seats may go to other threads
pub join-taken-requires-send-F : goal.join-taken-requires-send-F
join-taken-requires-send-F g c κs within = search (seat_send, crosses, sendable) depth 60 fits 20000
