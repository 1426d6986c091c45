-- What a lock guards may go to another thread.
use denote.RattleType.{RattleType}
use denote.Builtin.{bool}
use denote.Struct.Declared.{shape}
use denote.Param.Send.{IsSend, recorded_send, struct_send, sendable}
use Rattle.std.proofs.Crossing.{crosses}
use Rattle.std.proofs.option.Option.TheSendSync as option
use Rattle.std.specs.contracts.alloc.Global as Global
use Rattle.std.specs.contracts.impls.GlobalAllocator.TheImpl as heap
use Rattle.channel_names.specs.declared.channels.Channels.{Ghosts}
use Rattle.order_lanes.specs.declared.lanes.Lanes as lanes
use Rattle.status_board.specs.declared.board.Board as board
use Rattle.order_lanes.proofs.lane.Lane.TheSendSync as lane
use Rattle.inbox.proofs.Crosses.{drain_send}
use Rattle.tree_core.specs.contracts.image.Image as Image
use Rattle.tree_core.proofs.Crosses.{input_send, tree_send}
use Rattle.run_records.proofs.Crosses.{run_send}
use Rattle.run_history.proofs.history.WholeHistory.TheSendSync as whole
use Rattle.locked_services.specs.contracts.room.Room as Room
use Rattle.locked_services.specs.contracts.room.Room.TheInside as RoomInside
use Rattle.locked_services.specs.contracts.running.RunningTree as RunningTree
use Rattle.locked_services.specs.contracts.running.RunningTree.TheInside as Inside

image_send : IsSend (Image.the_row Global.the_row heap.ghosts)
image_send = search (crosses, sendable) depth 60 fits 20000

flag_send : IsSend bool
flag_send = search sendable

inside_send : (C : RattleType) (g : Ghosts C.Denot) (h : lanes.Ghosts C.Denot) → IsSend C → IsSend (Inside.the_row C g h)
inside_send C g h c =
    let d = drain_send C g c in
    let l = lane.the_send C h in
    recorded_send _ _ _ (Inside.the_type C g h).to_one (struct_send (shape (Inside.the_type C g h)) (
      search sendable,
      (
        image_send,
        (
          search (tree_send, crosses, sendable) depth 60 fits 20000,
          (
            run_send,
            (
              search (crosses, sendable) depth 60 fits 20000,
              (
                search (d, crosses, sendable) depth 60 fits 20000,
                (
                  search (input_send, option.the_field_send, crosses, sendable) depth 60 fits 20000,
                  (search (l, crosses, sendable) depth 60 fits 20000, tt),
                ),
              ),
            ),
          ),
        ),
      ),
    ))

pub running_send : (C : RattleType) (g : Ghosts C.Denot) (h : lanes.Ghosts C.Denot) → IsSend C → IsSend (RunningTree.the_row C g h)
running_send C g h c = let i = inside_send C g h c in search (i, sendable) depth 60 fits 20000

room_inside_send : (C B : RattleType) (g : Ghosts C.Denot) (h : lanes.Ghosts C.Denot) (b : board.Ghosts B.Denot C.Denot) → IsSend C → IsSend B
    → IsSend (RoomInside.the_row C B g h b)
room_inside_send C B g h b c d =
    recorded_send _ _ _ (RoomInside.the_type C B g h b).to_one (struct_send (shape (RoomInside.the_type C B g h b))
    (running_send C g h c, (d, (flag_send, (whole.the_send C h, tt)))))

pub room_send : (C B : RattleType) (g : Ghosts C.Denot) (h : lanes.Ghosts C.Denot) (b : board.Ghosts B.Denot C.Denot) → IsSend C → IsSend B
    → IsSend (Room.the_row C B g h b)
room_send C B g h b c d = let i = room_inside_send C B g h b c d in search (i, sendable) depth 60 fits 20000
