use Rattle.std.proofs.Common.{◌≡◌, ◌∙◌, ◌++◌, ap, sym, subst}
use Rattle.std.proofs.lemmas.List.{take_all}
use Rattle.supervise_core.specs.declared.row.Status.{Status}
use Rattle.supervise_core.specs.Status.{Agrees, mark_moments, status_with_all}
use Rattle.supervise_core.proofs.Agreement.{agrees_after}
use Rattle.supervise_core.proofs.row.Status.record_marks.Goals as goal

pub returns-clause-agrees : goal.returns-clause-agrees
returns-clause-agrees c =
    let told : c.loop-mark.self ≡ status_with_all c.args.now c.args.marks.now c.args.self.now =
    c.loop-mark.invariant ∙ ap (λ marks. status_with_all c.args.now marks c.args.self.now)
    (take_all c.loop-mark.mark-index c.args.marks.now c.loop-mark-test.false) in
    λ sid history before at. subst (λ (s : Status). Agrees sid s (history ++ mark_moments sid c.args.marks.now)) (sym told)
    (agrees_after sid c.args.now c.args.marks.now c.args.self.now history before at)
