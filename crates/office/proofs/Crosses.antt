-- Threads may share an office.
use denote.RattleType.{RattleType}
use denote.Struct.Declared.{shape}
use denote.Param.Send.{IsSend, IsSync, recorded_sync, struct_sync, sendable}
use Rattle.std.proofs.Crossing.{crosses}
use Rattle.std.proofs.sync.Mutex.TheSendSync as mutex
use Rattle.std.specs.contracts.alloc.Global as Global
use Rattle.std.specs.contracts.impls.GlobalAllocator.TheImpl as heap
use Rattle.std.specs.contracts.sync.Mutex as Mutex
use Rattle.std.specs.contracts.vec.Vec as Vec
use Rattle.channel_names.specs.declared.channels.Channels.{Ghosts}
use Rattle.order_lanes.proofs.desk.Desk.TheSendSync as desk
use Rattle.order_lanes.specs.contracts.desk.Desk as Desk
use Rattle.order_lanes.specs.declared.backend.Backend as backend
use Rattle.order_lanes.specs.declared.lanes.Lanes as lanes
use Rattle.status_board.specs.declared.board.Board as board
use Rattle.locked_services.proofs.Crosses.{room_send}
use Rattle.office.specs.contracts.office.Office as Office
use Rattle.office.specs.contracts.office.Office.TheInside as Inside
use Rattle.office.proofs.spare.Spare.TheSendSync as spare

desks_sync : (C B : RattleType) (h : lanes.Ghosts C.Denot) (b : backend.Ghosts B.Denot) → IsSend B
    → IsSync (Vec.the_field (Mutex.the_row (Desk.the_row B C b h)) Global.the_row heap.ghosts).row
desks_sync C B h b t =
    let d = mutex.the_sync _ (desk.the_send B C b h t) in
    search (d, crosses, sendable) depth 60 fits 20000

inside_sync : (C D B : RattleType) (g : Ghosts C.Denot) (h : lanes.Ghosts C.Denot) (d : board.Ghosts D.Denot C.Denot) (b : backend.Ghosts B.Denot)
    → IsSend C → IsSend D → IsSend B → IsSync (Inside.the_row C D B h b g d)
inside_sync C D B g h d b c s t =
    recorded_sync _ _ _ (Inside.the_type C D B h b g d).to_one (struct_sync (shape (Inside.the_type C D B h b g d))
    (mutex.the_sync _ (room_send C D g h d c s), (desks_sync C B h b t, (mutex.the_sync _ (spare.the_send B C b h t), tt))))

pub office_sync : (C D B : RattleType) (g : Ghosts C.Denot) (h : lanes.Ghosts C.Denot) (d : board.Ghosts D.Denot C.Denot) (b : backend.Ghosts B.Denot)
    → IsSend C → IsSend D → IsSend B → IsSync (Office.the_row C D B h b g d)
office_sync C D B g h d b c s t = let i = inside_sync C D B g h d b c s t in search (i, sendable) depth 60 fits 20000
