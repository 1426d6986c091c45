use Rattle.std.proofs.Common.{rules, ◌≡◌, slice_get, Some, length, refl, ap, sym, ◌∙◌}
use Rattle.std.proofs.lemmas.Option.{slice_get_read}
use Rattle.run_records.specs.declared.step_log.StepStart.{StepStart}
use Rattle.run_records.specs.declared.step_log.StepStart.TheVariants.{Coded, Whole}
use Rattle.run_records.specs.Runs.{LogView, RunStep}
use Rattle.run_records.specs.Log.{IsThere, step_at, step_or}
use Rattle.run_records.proofs.Snoc.{low_there, there_at}
use Rattle.run_records.proofs.LogReading.{all_at, is_stored, step_there}
use Rattle.run_records.proofs.step_log.StepLog.fill.Goals as goal

pub returns-in_ok-take_outcome-in-Coded : goal.returns-in_ok-take_outcome-in-Coded
returns-in_ok-take_outcome-in-Coded c s there =
    let codes = c.self.inside.codes.items in
    let whole = c.self.inside.whole.steps in
    let starts = c.self.inside.starts.items in
    let inside = ap (λ (v : LogView). slice_get v.steps c.args.place) c.self.view_is ∙ there in
    let low = low_there (step_at codes whole) starts c.args.place s inside in
    let here : slice_get starts c.args.place ≡ Some (Coded c.in-Coded.start) =
    slice_get_read starts (length starts) c.args.place c.index.result.now refl low c.index.ensures ∙ ap (λ (st : StepStart). Some st) c.in-Coded.is in
    let is = step_there codes whole starts c.args.place (Coded c.in-Coded.start) s inside here in
    let there_is = all_at (IsThere codes whole) starts c.args.place (Coded c.in-Coded.start) c.self.invariant here in
    let stored = is_stored codes c.in-Coded.start c.code_from-code.result s there_is (search rules) is in
    let head = c.take_head-head.ensures s.input.actor s.input.at _ stored.2.actor stored.2.at stored.1 in
    (c.in_ok-take_outcome-in-Coded.ensures s.outcome _ stored.2.outcome head.2).0

pub returns-in_ok-fill-in-Whole : goal.returns-in_ok-fill-in-Whole
returns-in_ok-fill-in-Whole c s there =
    let codes = c.self.inside.codes.items in
    let whole = c.self.inside.whole.steps in
    let starts = c.self.inside.starts.items in
    let inside = ap (λ (v : LogView). slice_get v.steps c.args.place) c.self.view_is ∙ there in
    let low = low_there (step_at codes whole) starts c.args.place s inside in
    let here : slice_get starts c.args.place ≡ Some (Whole c.in-Whole.at) =
    slice_get_read starts (length starts) c.args.place c.index.result.now refl low c.index.ensures ∙ ap (λ (st : StepStart). Some st) c.in-Whole.is in
    let is = step_there codes whole starts c.args.place (Whole c.in-Whole.at) s inside here in
    let one = there_at whole c.in-Whole.at (all_at (IsThere codes whole) starts c.args.place (Whole c.in-Whole.at) c.self.invariant here) in
    c.in_ok-fill-in-Whole.ensures s (one.there ∙ ap (λ (t : RunStep). Some t) (sym (ap step_or one.there) ∙ is))
