-- What the threads of the tree take over may go to them, and what they share may be shared.
use denote.RattleType.{RattleType}
use denote.Struct.Declared.{shape}
use denote.Param.Send.{IsSend, IsSync, recorded_send, struct_send, sendable}
use Rattle.std.proofs.Crossing.{crosses}
use Rattle.std.proofs.sync.Mutex.TheSendSync as mutex
use Rattle.std.proofs.string.String.TheSendSync as string
use Rattle.std.specs.contracts.sync.Mutex as Mutex
use Rattle.child_runner.proofs.Crosses.{linked_backend_send}
use Rattle.tree_driver.proofs.runs.RunSettings.TheSendSync as settings
use Rattle.refusal_trial.specs.contracts.fake_worker.FakeWorker as FakeWorker
use Rattle.refusal_trial.specs.contracts.tree_places.Places as Places
use Rattle.refusal_trial.specs.contracts.tree_run.TreeEnd as TreeEnd
use Rattle.refusal_trial.specs.contracts.tree_run.TrialDriverParts as DriverParts

pub parts_send : (R : RattleType) → IsSend R → IsSend (DriverParts.the_row R)
parts_send R r =
    let T = DriverParts.the_type R in
    let b = linked_backend_send R r in
    recorded_send _ _ _ T.to_one (struct_send (shape T) (
      search (b, crosses, sendable) depth 60 fits 20000,
      (
        search (crosses, sendable) depth 60 fits 20000,
        (search (settings.the_field_send, crosses, sendable) depth 60 fits 20000, tt),
      ),
    ))

pub worker_send : IsSend FakeWorker.the_row
worker_send = search (crosses, sendable) depth 60 fits 20000

end_send : IsSend TreeEnd.the_row
end_send = search (crosses, sendable) depth 60 fits 20000

pub end_sync : IsSync (Mutex.the_row TreeEnd.the_row)
end_sync = mutex.the_sync _ end_send

pub places_sync : IsSync Places.the_row
places_sync = search (string.the_field_sync, crosses, sendable) depth 60 fits 20000
