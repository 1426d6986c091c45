use Rattle.std.proofs.Common.{rules, ◌≡◌, [], ◌∷◌, ◌++◌, length, ap, ◌∙◌}
use Rattle.tree_core.specs.Effect.{outcome_of}
use Rattle.run_records.specs.Runs.{LogView, RunStep}
use Rattle.run_records.proofs.LogReading.{whole_longer}
use Rattle.run_records.proofs.step_log.StepLog.push_whole.Goals as goal

pub returns : goal.returns
returns c =
    let step : RunStep = record { input = c.args.input; outcome = outcome_of c.args.effect.now } in
    let whole = c.self.inside.whole.steps in
    let pushed : c.push.new.self.steps ≡ whole ++ step ∷ [] = search rules in
    let place : c.len-place.result ≡ length whole = search rules in
    let made = whole_longer c.self.inside.codes.items whole c.push.new.self.steps c.self.inside.starts.items c.push_reserved.new.self.items
    c.len-place.result step c.self.invariant place pushed c.push_reserved.ensures.items in
    made.steps ∙ ap (λ (v : LogView). v.steps ++ step ∷ []) c.self.view_is
