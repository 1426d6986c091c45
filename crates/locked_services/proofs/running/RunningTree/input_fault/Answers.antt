use Rattle.std.proofs.Common.{refl, subst}
use Rattle.locked_services.specs.Closing.{AreDone}
use Rattle.locked_services.specs.Running.{RunningView}
use Rattle.locked_services.proofs.EndOfRun.{sound_same}
use Rattle.locked_services.proofs.Finished.{done_unheld, if_none_both}
use Rattle.locked_services.proofs.running.RunningTree.input_fault.Goals as goal

pub invariant_of-self : goal.invariant_of-self
invariant_of-self g c =
    sound_same _ _ (record { opening = refl; tree = refl; steps = refl; drains = c.input_fault.ensures.same; held = refl; lanes = refl })
    c.self.invariant

pub returns-clause-done : goal.returns-clause-done
returns-clause-done g c =
    if_none_both c.input_fault.result
    (λ taken free. subst (λ (v : RunningView). AreDone v.steps c.args.finishes.now.items) c.self.view_is
    (done_unheld _ c.args.finishes.now.items c.is_some-is_held.result c.self.invariant c.is_some-is_held.ensures taken free))
    c.input_fault.ensures.taken c.input_fault.ensures.free
