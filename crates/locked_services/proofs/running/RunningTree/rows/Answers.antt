use Rattle.std.proofs.Common.{sym, ap, subst, ◌∙◌}
use Rattle.tree_core.specs.Machine.{Machine}
use Rattle.tree_core.specs.StandsFor.{StandsFor, StoredTree}
use Rattle.run_records.specs.Runs.{end_of}
use Rattle.locked_services.specs.Running.{RunningView}
use Rattle.locked_services.specs.Shots.{shot_of}
use Rattle.locked_services.proofs.Shown.{shot_is}
use Rattle.locked_services.proofs.running.RunningTree.rows.Goals as goal

pub returns-in_err-fill_rows-clause-begins : goal.returns-in_err-fill_rows-clause-begins
returns-in_err-fill_rows-clause-begins g c = subst (λ (v : RunningView). (m : Machine) × StandsFor v.opening m) c.self.view_is c.self.invariant.begins

pub returns-clause-begins : goal.returns-clause-begins
returns-clause-begins g c = subst (λ (v : RunningView). (m : Machine) × StandsFor v.opening m) c.self.view_is c.self.invariant.begins

pub returns-clause-rows : goal.returns-clause-rows
returns-clause-rows g c m s =
    let steps = c.self.inside.run.steps in
    let here : StandsFor c.self.inside.opening m = subst (λ (v : RunningView). StandsFor v.opening m) (sym c.self.view_is) s in
    let stands = subst (λ (t : StoredTree). StandsFor t (end_of m steps)) (sym c.deref-tree.ensures) (c.self.invariant.stands m here) in
    c.new.ensures
    ∙ (shot_is (end_of m steps) (record { at = c.steps-at.result; rows = record { items = c.fill_rows.new.rows.items } })
    (c.steps-at.ensures (end_of m steps) stands)
    (c.in_ok-fill_rows.ensures.each (end_of m steps) stands)
    ∙ ap (λ (v : RunningView). shot_of (end_of m v.steps)) c.self.view_is)
