-- What the threads of a running tree share may be shared.
use denote.Struct.Declared.{shape}
use denote.Struct.Field.{u64-field, bool-field}
use denote.Param.Send.{IsSend, IsSync, recorded_send, recorded_sync, struct_send, struct_sync, sendable}
use Rattle.std.proofs.Crossing.{crosses}
use Rattle.std.proofs.option.Option.TheSendSync as option
use Rattle.event_directory.proofs.Crosses.{pattern_send}
use Rattle.child_runner.proofs.bell.Bell.TheSendSync as bell
use Rattle.child_runner.proofs.Crosses.{link_send, link_sync}
use Rattle.line_server.proofs.server.Server.TheSendSync as server
use Rattle.line_server.specs.contracts.server.Server as Server
use Rattle.server_rules.specs.contracts.requests.Request as Request
use Rattle.server_threads.specs.contracts.caller.Caller as Caller
use Rattle.server_threads.specs.contracts.caller.CallerRequests as CallerRequests
use Rattle.server_threads.specs.contracts.noted_end.NotedEnd as NotedEnd
use Rattle.server_threads.proofs.scan_tasks.ScanTasks.TheSendSync as tasks
use Rattle.server_threads.specs.contracts.shared.Shared as Shared

number_send : IsSend u64-field.row
number_send = search sendable

flag_send : IsSend bool-field.row
flag_send = search sendable

request_send : IsSend Request.the_row
request_send = search (pattern_send, option.the_field_send, crosses, sendable) depth 60 fits 20000

turn_send : IsSend CallerRequests.the_row
turn_send =
    let T = CallerRequests.the_type in
    recorded_send _ _ _ T.to_one (struct_send (shape T) (
      search (request_send, crosses, sendable) depth 60 fits 20000,
      (number_send, (flag_send, (flag_send, (flag_send, (flag_send, tt))))),
    ))

caller_sync : IsSync Caller.the_row
caller_sync = search (turn_send, crosses, sendable) depth 60 fits 20000

pub shared_sync : IsSync Shared.the_row
shared_sync =
    let T = Shared.the_type in
    recorded_sync _ _ _ T.to_one (struct_sync (shape T) (
      search (crosses, sendable) depth 60 fits 20000,
      (
        search (crosses, sendable) depth 60 fits 20000,
        (
          search (caller_sync, crosses, sendable) depth 60 fits 20000,
          (
            search (tasks.the_field_sync, crosses, sendable) depth 60 fits 20000,
            (
              search (crosses, sendable) depth 60 fits 20000,
              (
                search (link_send, link_sync, crosses, sendable) depth 60 fits 20000,
                (search (bell.the_field_sync, crosses, sendable) depth 60 fits 20000, tt),
              ),
            ),
          ),
        ),
      ),
    ))

pub server_sync : IsSync (Server.the_row Shared.the_row)
server_sync = search (shared_sync, server.the_sync, crosses, sendable) depth 60 fits 20000

pub outcome_sync : IsSync NotedEnd.the_row
outcome_sync = search (crosses, sendable) depth 60 fits 20000
