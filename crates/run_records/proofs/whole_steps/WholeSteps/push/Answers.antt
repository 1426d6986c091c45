use Rattle.std.proofs.Common.{rules, ◌≡◌, [], ◌∷◌, ◌++◌, map, length, refl, ap, ◌∙◌}
use Rattle.tree_core.specs.Effect.{outcome_of}
use Rattle.run_records.specs.Runs.{RunStep, WholeView}
use Rattle.run_records.specs.WholeSteps.{step_of}
use Rattle.run_records.proofs.Growing.{steps_snoc, part_last}
use Rattle.run_records.proofs.whole_steps.WholeSteps.push.Goals as goal

-- the step that joins
abbrev step : goal.After-push_reserved → RunStep
step c = record { input = c.args.input; outcome = outcome_of c.args.effect.now }

steps : (c : goal.After-push_reserved) → map (step_of c.extend_from_slice.new.self.items) c.push_reserved.new.self.items
    ≡ map (step_of c.self.inside.orders.items) c.self.inside.records.items ++ step c ∷ []
steps c =
    let orders = c.self.inside.orders.items in
    let more = c.args.effect.now.orders.items in
    let rs = c.self.inside.records.items in
    let e : c.extend_from_slice.new.self.items ≡ orders ++ more = search rules in
    let first : c.len-first.result ≡ length orders = search rules in
    let count : c.len-count.result ≡ length more = search rules in
    let reply : c.replace.result ≡ c.args.effect.now.reply = search rules in
    let events : c.replace-2.result.items ≡ c.args.effect.now.events.items = search rules in
    let matched : c.replace-3.result.items ≡ c.args.effect.now.matched.items = search rules in
    let released : c.replace-4.result.items ≡ c.args.effect.now.released.items = search rules in
    steps_snoc orders more c.extend_from_slice.new.self.items rs c.push_reserved.new.self.items _ (step c) c.self.invariant e
    c.push_reserved.ensures.items
    (rw (part_last orders more _ _ first count) (rw reply (rw events (rw matched (rw released refl)))))

pub returns : goal.returns
returns c = steps c ∙ ap (λ (v : WholeView). v.steps ++ step c ∷ []) c.self.view_is
