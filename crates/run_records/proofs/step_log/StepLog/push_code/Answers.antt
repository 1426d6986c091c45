use Rattle.std.proofs.Common.{rules, ◌≡◌, ℕ, List, [], ◌∷◌, ◌++◌, length, ap, subst, ◌∙◌}
use Rattle.tree_core.specs.Effect.{outcome_of}
use Rattle.step_codes.specs.Adding.{Adds}
use Rattle.step_codes.specs.StepCodes.{step_onto, FitsStep}
use Rattle.run_records.specs.Runs.{LogView, RunStep}
use Rattle.run_records.proofs.LogReading.{IsLonger, coded_longer}
use Rattle.run_records.proofs.step_log.StepLog.push_code.Goals as goal

-- the step that joins
abbrev step : (g : _) (c : goal.After-push_reserved g) → RunStep
step g c = record { input = g.I.KeptInput.input c.args.input.now; outcome = outcome_of c.args.effect.now }

joined : (g : _) (c : goal.After-push_reserved g) → IsLonger c.self.inside.codes.items c.self.inside.whole.steps c.self.inside.starts.items
    c.extend_from_slice.new.self.items c.self.inside.whole.steps c.push_reserved.new.self.items (step g c)
joined g c =
    let i = g.I.KeptInput.input c.args.input.now in
    let o = outcome_of c.args.effect.now in
    let added : Adds c.clear.new.self.items c.push_step.new.code.items (step_onto i o) = c.in-Ok-true.ensures.added c.in-Ok-true.field-0-test in
    let onto : Adds [] c.push_step.new.code.items (step_onto i o) =
    subst (λ (t : List ℕ). Adds t c.push_step.new.code.items (step_onto i o)) c.clear.ensures.items added in
    let fits : FitsStep i o = c.in-Ok-true.ensures.fits c.in-Ok-true.field-0-test in
    let codes : c.extend_from_slice.new.self.items ≡ c.self.inside.codes.items ++ c.push_step.new.code.items = search rules in
    let start : c.len-start.result ≡ length c.self.inside.codes.items = search rules in
    coded_longer c.self.inside.codes.items c.push_step.new.code.items c.extend_from_slice.new.self.items c.self.inside.whole.steps
    c.self.inside.starts.items c.push_reserved.new.self.items c.len-start.result (step g c) c.self.invariant start onto fits codes
    c.push_reserved.ensures.items

pub invariant_of-self-2 : goal.invariant_of-self-2
invariant_of-self-2 g c = (joined g c).sound

pub returns-clause-yes : goal.returns-clause-yes
returns-clause-yes g c _ = (joined g c).steps ∙ ap (λ (v : LogView). v.steps ++ step g c ∷ []) c.self.view_is
