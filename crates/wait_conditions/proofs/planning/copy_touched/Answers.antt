use Rattle.std.proofs.Common.{◌∙◌, ap, sym, subst}
use Rattle.std.proofs.lemmas.Result.{IfOk-weaker}
use Rattle.wait_conditions.specs.Reach.{TouchWithin}
use Rattle.wait_conditions.specs.WaitsFields.{waiters_view}
use Rattle.wait_conditions.proofs.Reached.{none_touched, same_touched}
use Rattle.wait_conditions.proofs.planning.copy_touched.Goals as goal

pub returns-in-Nobody-clause-copies : goal.returns-in-Nobody-clause-copies
returns-in-Nobody-clause-copies g c =
    ap waiters_view c.new.ensures.items
    ∙ sym (none_touched c.args.due c.args.moments.now (waiters_view c.args.waiters.now)
    (subst (λ r. TouchWithin c.args.due r c.args.moments.now) c.in-Nobody.is c.reach_of.ensures.within) c.requires.due)

pub returns-in-WatchersOf-clause-copies : goal.returns-in-WatchersOf-clause-copies
returns-in-WatchersOf-clause-copies g c =
    IfOk-weaker c.copy_watching.result _ _
    (λ copies e. e ∙ same_touched c.args.due c.in-WatchersOf.sid c.args.moments.now (waiters_view c.args.waiters.now)
    (subst (λ r. TouchWithin c.args.due r c.args.moments.now) c.in-WatchersOf.is c.reach_of.ensures.within) c.requires.due)
    c.copy_watching.ensures.copies
