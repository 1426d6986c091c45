-- What the thread that drives takes over may go to it.
use denote.RattleType.{RattleType}
use denote.Struct.Declared.{shape}
use denote.Param.Send.{IsSend, recorded_send, struct_send, sendable}
use Rattle.std.proofs.Crossing.{crosses}
use Rattle.tree_driver.proofs.runs.RunSettings.TheSendSync as settings
use Rattle.tree_server.specs.contracts.threads.DriverParts as DriverParts

pub parts_send : (B W : RattleType) → IsSend B → IsSend W → IsSend (DriverParts.the_row B W)
parts_send B W b w =
    let T = DriverParts.the_type B W in
    recorded_send _ _ _ T.to_one (struct_send (shape T) (
      search (b, crosses, sendable) depth 60 fits 20000,
      (
        search (crosses, sendable) depth 60 fits 20000,
        (search (settings.the_field_send, w, crosses, sendable) depth 60 fits 20000, tt),
      ),
    ))
