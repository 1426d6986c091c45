use Rattle.std.proofs.Common.{rules, ◌≡◌, length, slice_get, Some, refl, ap, sym, ◌∙◌}
use Rattle.std.proofs.lemmas.Option.{slice_get_read}
use Rattle.run_records.specs.declared.step_log.StepStart.{StepStart}
use Rattle.run_records.specs.declared.step_log.StepStart.TheVariants.{Coded, Whole}
use Rattle.run_records.specs.Runs.{LogView, RunStep}
use Rattle.run_records.specs.Log.{IsThere, step_at, step_or}
use Rattle.run_records.proofs.Snoc.{low_there, there_at}
use Rattle.run_records.proofs.LogReading.{all_at, step_there, is_stored}
use Rattle.run_records.proofs.step_log.StepLog.look.Goals as goal

pub returns-in-Coded : goal.returns-in-Coded
returns-in-Coded c s there =
    let codes = c.self.inside.codes.items in
    let whole = c.self.inside.whole.steps in
    let starts = c.self.inside.starts.items in
    let inside = ap (λ (v : LogView). slice_get v.steps c.args.place) c.self.view_is ∙ there in
    let low = low_there (step_at codes whole) starts c.args.place s inside in
    let here : slice_get starts c.args.place ≡ Some (Coded c.in-Coded.start) =
    slice_get_read starts (length starts) c.args.place c.index.result.now refl low c.index.ensures ∙ ap (λ (st : StepStart). Some st) c.in-Coded.is in
    let is = step_there codes whole starts c.args.place (Coded c.in-Coded.start) s
    inside here in
    is_stored codes c.in-Coded.start c.code_from.result s
    (all_at (IsThere codes whole) starts c.args.place (Coded c.in-Coded.start) c.self.invariant here)
    (search rules) is

pub returns-in-Whole : goal.returns-in-Whole
returns-in-Whole c s there =
    let codes = c.self.inside.codes.items in
    let whole = c.self.inside.whole.steps in
    let starts = c.self.inside.starts.items in
    let inside = ap (λ (v : LogView). slice_get v.steps c.args.place) c.self.view_is ∙ there in
    let low = low_there (step_at codes whole) starts c.args.place s inside in
    let here : slice_get starts c.args.place ≡ Some (Whole c.in-Whole.at) =
    slice_get_read starts (length starts) c.args.place c.index.result.now refl low c.index.ensures ∙ ap (λ (st : StepStart). Some st) c.in-Whole.is in
    let is = step_there codes whole starts c.args.place (Whole c.in-Whole.at) s
    inside here in
    let one = there_at whole c.in-Whole.at (all_at (IsThere codes whole) starts c.args.place (Whole c.in-Whole.at) c.self.invariant here) in
    c.record.ensures s (one.there ∙ ap (λ (t : RunStep). Some t) (sym (ap step_or one.there) ∙ is))
