use Rattle.std.proofs.Common.{rules, ◌≡◌, ◌<◌, List, length, Some, slice_get, ap, sym, ◌∙◌, arith}
use Rattle.std.proofs.lemmas.Option.{slice_get_within}
use Rattle.run_records.specs.Runs.{RunStep, RunView}
use Rattle.run_records.proofs.Snoc.{there_at}
use Rattle.run_records.proofs.RunText.{fits_more, head_stops, step_stops, writes_on}
use Rattle.run_records.proofs.run.Run.write.Goals as goal

pub returns-in-Err-clause-fault : goal.returns-in-Err-clause-fault
returns-in-Err-clause-fault g c = head_stops _ _ _ _ _ c.in-Err.ensures.fault

pub returns-in-Err-write_stored-clause-fault : goal.returns-in-Err-write_stored-clause-fault
returns-in-Err-write_stored-clause-fault g c =
    let steps = c.args.self.now.steps in
    let inner = c.self.inside.log.steps in
    let place = c.loop-place.place in
    let low : place < length inner = grind (arith, rules) in
    let here = there_at inner place low in
    let same : inner ≡ steps = ap (λ (v : RunView). v.steps) c.self.view_is in
    let there : slice_get steps place ≡ Some here.one = ap (λ (ss : List RunStep). slice_get ss place) (sym same) ∙ here.there in
    step_stops c.args.head place steps here.one there _ _ _ c.loop-place.invariant.written c.in-Err-write_stored.fault
    (slice_get_within steps place _ there) (c.in-Err-write_stored.ensures.fault here.one (c.look-stored.ensures here.one here.there))

pub loop-place-preserved : goal.loop-place-preserved
loop-place-preserved g c =
    let steps = c.args.self.now.steps in
    let inner = c.self.inside.log.steps in
    let place = c.loop-place.place in
    let low : place < length inner = grind (arith, rules) in
    let here = there_at inner place low in
    let same : inner ≡ steps = ap (λ (v : RunView). v.steps) c.self.view_is in
    let there : slice_get steps place ≡ Some here.one = ap (λ (ss : List RunStep). slice_get ss place) (sym same) ∙ here.there in
    let stored = c.look-stored.ensures here.one here.there in
    record {
      written = writes_on c.args.head place steps here.one there _ _ _ c.loop-place.invariant.written
          (c.in_default-write_stored.ensures.ok here.one stored);
      fit = fits_more c.args.head place steps here.one there c.loop-place.invariant.fit
          (c.in_default-write_stored.ensures.fits here.one stored);
    }
