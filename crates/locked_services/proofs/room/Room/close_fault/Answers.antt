use Rattle.std.proofs.Common.{refl, ap, sym, ◌∙◌}
use Rattle.run_records.specs.Runs.{inputs_of}
use Rattle.locked_services.proofs.Shown.{shows_same}
use Rattle.locked_services.proofs.room.Room.close_fault.Goals as goal

pub invariant_of-self : goal.invariant_of-self
invariant_of-self g c =
    let same = c.close_fault.ensures.same in
    (shows_same g.C.Lanes.opening _ _ c.self.invariant.0 same.opening refl same.steps refl, c.self.invariant.1 ∙ sym (ap inputs_of same.steps))
