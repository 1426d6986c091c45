-- Backends may go to another thread, and a link may be shared.
use denote.RattleType.{RattleType}
use denote.Struct.Declared.{shape}
use denote.Param.Send.{IsSend, IsSync, recorded_send, struct_send, sendable}
use Rattle.std.proofs.Crossing.{crosses}
use Rattle.std.proofs.string.String.TheSendSync as string
use Rattle.std.specs.contracts.rt.LibcRuntime as LibcRuntime
use Rattle.error_notes.proofs.Crosses.{notes_send, notes_sync}
use Rattle.child_runner.proofs.bell.Bell.TheSendSync as bell
use Rattle.child_runner.proofs.lane_link.LaneLink.TheSendSync as link
use Rattle.child_runner.proofs.shared_child.ServiceProcess.TheSendSync as process
use Rattle.child_runner.proofs.roster.ChildList.TheSendSync as roster
use Rattle.child_runner.proofs.trials.Trial.TheSendSync as trial
use Rattle.child_runner.specs.contracts.backend.ProcessBackend as ProcessBackend
use Rattle.child_runner.specs.contracts.backend.ProcessBackend.TheInside as Inside
use Rattle.child_runner.specs.contracts.lane_link.LaneLink as LaneLink
use Rattle.child_runner.specs.contracts.linked_backend.LinkedBackend as LinkedBackend
use Rattle.child_runner.specs.contracts.linked_backend.LinkedBackend.TheInside as LinkedInside
use Rattle.child_runner.specs.contracts.roll.Roll as Roll
use Rattle.child_runner.specs.contracts.roll.Roll.TheInside as RollInside

roll_inside_send : IsSend RollInside.the_row
roll_inside_send = search (crosses, sendable) depth 60 fits 20000

roll_send : IsSend Roll.the_row
roll_send = search (roll_inside_send, sendable) depth 60 fits 20000

inside_send : (R : RattleType) → IsSend R → IsSend (Inside.the_row R)
inside_send R r =
    let T = Inside.the_type R in
    recorded_send _ _ _ T.to_one (struct_send (shape T) (
      r,
      (
        search (crosses, sendable) depth 60 fits 20000,
        (
          search (string.the_field_send, crosses, sendable) depth 60 fits 20000,
          (
            search (roster.the_send, roster.the_sync, crosses, sendable) depth 60 fits 20000,
            (
              search (bell.the_send, bell.the_sync, crosses, sendable) depth 60 fits 20000,
              (
                search (notes_send, notes_sync, crosses, sendable) depth 60 fits 20000,
                (
                  search (process.the_send, process.the_sync, crosses, sendable) depth 60 fits 20000,
                  (
                    search (trial.the_send, crosses, sendable) depth 60 fits 20000,
                    (
                      search (crosses, sendable) depth 60 fits 20000,
                      (search sendable, (roll_send, tt)),
                    ),
                  ),
                ),
              ),
            ),
          ),
        ),
      ),
    ))

pub backend_send : (R : RattleType) → IsSend R → IsSend (ProcessBackend.the_row R)
backend_send R r = let i = inside_send R r in search (i, sendable) depth 60 fits 20000

runtime_send : IsSend LibcRuntime.the_row
runtime_send = search (crosses, sendable) depth 60 fits 20000

-- that of a program
pub program_backend_send : IsSend (ProcessBackend.the_row LibcRuntime.the_row)
program_backend_send = backend_send LibcRuntime.the_row runtime_send

-- a link is shared by a run and the thread of its lane
pub link_send : IsSend LaneLink.the_row
link_send = search (link.the_send, crosses, sendable) depth 60 fits 20000

pub link_sync : IsSync LaneLink.the_row
link_sync = search (link.the_sync, crosses, sendable) depth 60 fits 20000

linked_inside_send : (R : RattleType) → IsSend R → IsSend (LinkedInside.the_row R)
linked_inside_send R r =
    let T = LinkedInside.the_type R in
    recorded_send _ _ _ T.to_one (struct_send (shape T) (
      r,
      (search (link_send, link_sync, crosses, sendable) depth 60 fits 20000, (roll_send, tt)),
    ))

pub linked_backend_send : (R : RattleType) → IsSend R → IsSend (LinkedBackend.the_row R)
linked_backend_send R r = let i = linked_inside_send R r in search (i, sendable) depth 60 fits 20000
