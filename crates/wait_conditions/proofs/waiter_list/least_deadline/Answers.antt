use Rattle.std.proofs.Common.{◌∙◌, ◌++◌, ◌∷◌, [], sym, subst, take}
use Rattle.std.proofs.lemmas.List.{take_all}
use Rattle.wait_conditions.specs.Kept.{waiter_view}
use Rattle.wait_conditions.specs.WaitsFields.{waiters_view}
use Rattle.wait_conditions.specs.Watchers.{AreDueFrom}
use Rattle.wait_conditions.proofs.Ordered.{due_push, due_push_released, view_more}
use Rattle.wait_conditions.proofs.waiter_list.least_deadline.Goals as goal
use Rattle.wait_conditions.proofs.waiter_list.least_deadline.Goals.{then-waits_still, else-waits_still}

pub loop-waiter-preserved : goal.loop-waiter-preserved
loop-waiter-preserved c =
    let k = waiter_view c.waiter-item.result in
    let before = waiters_view (take c.loop-waiter.waiter-index c.args.waiters.now) in
    subst (AreDueFrom c.if-waits_still.due)
    (sym (view_more c.args.waiters.now c.loop-waiter.waiter-index c.waiter-item.result c.loop-waiter-test.true c.waiter-item.is))
    (elim c.if-waits_still.branch [
      | then-waits_still w ↦ subst (λ n. AreDueFrom n (before ++ k ∷ [])) (sym (w.due-is ∙ w.earlier-due.ensures))
          (due_push c.loop-waiter.due k before c.loop-waiter.invariant)
      | else-waits_still w ↦ subst (λ n. AreDueFrom n (before ++ k ∷ [])) (sym w.due-is)
          (due_push_released c.loop-waiter.due k before (sym c.waits_still.ensures ∙ w.if-waits_still.false) c.loop-waiter.invariant)
    ])

pub returns : goal.returns
returns c = subst (λ ws. AreDueFrom c.loop-waiter.due (waiters_view ws))
    (take_all c.loop-waiter.waiter-index c.args.waiters.now c.loop-waiter-test.false) c.loop-waiter.invariant
