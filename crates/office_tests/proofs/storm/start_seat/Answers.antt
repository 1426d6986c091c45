use denote.Param.Send.{sendable}
use Rattle.std.proofs.Crossing.{crosses}
use Rattle.inbox.proofs.Crosses.{seat_send}
use Rattle.office_tests.proofs.storm.start_seat.Goals as goal

-- the seat may go to another thread
pub spawn_scoped-requires-send-F : goal.spawn_scoped-requires-send-F
spawn_scoped-requires-send-F g c κs within = search (seat_send, crosses, sendable) depth 60 fits 20000
