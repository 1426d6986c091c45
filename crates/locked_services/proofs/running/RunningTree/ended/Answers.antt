use Rattle.std.proofs.Common.{sym, ap, subst, ◌∙◌}
use Rattle.tree_core.specs.Ended.{has_ended}
use Rattle.tree_core.specs.StandsFor.{StandsFor, StoredTree}
use Rattle.run_records.specs.Runs.{end_of}
use Rattle.locked_services.specs.Running.{RunningView}
use Rattle.locked_services.proofs.running.RunningTree.ended.Goals as goal

pub returns : goal.returns
returns g c m s =
    let steps = c.self.inside.run.steps in
    let here : StandsFor c.self.inside.opening m = subst (λ (v : RunningView). StandsFor v.opening m) (sym c.self.view_is) s in
    let stands = subst (λ (t : StoredTree). StandsFor t (end_of m steps)) (sym c.deref.ensures) (c.self.invariant.stands m here) in
    c.ended.ensures (end_of m steps) stands ∙ ap (λ (v : RunningView). has_ended (end_of m v.steps)) c.self.view_is
