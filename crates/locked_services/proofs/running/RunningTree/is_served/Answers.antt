use Rattle.std.proofs.Common.{refl}
use Rattle.locked_services.proofs.EndOfRun.{sound_same}
use Rattle.locked_services.proofs.running.RunningTree.is_served.Goals as goal

pub invariant_of-self : goal.invariant_of-self
invariant_of-self g c =
    sound_same _ _ (record { opening = refl; tree = refl; steps = refl; drains = refl; held = refl; lanes = c.are_served.ensures.lanes })
    c.self.invariant
