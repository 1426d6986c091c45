use Rattle.std.proofs.Common.{subst}
use Rattle.locked_services.specs.Shots.{RoomView, IsSoundHistory}
use Rattle.locked_services.proofs.room.Room.steps.Goals as goal

pub returns-clause-sound : goal.returns-clause-sound
returns-clause-sound g c =
    subst (λ (v : RoomView). IsSoundHistory g.C.Lanes.opening v) c.self.view_is
    (record { running = c.steps.ensures.sound; room = c.self.invariant.0 })
