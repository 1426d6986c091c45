use Rattle.std.proofs.Common.{◌∙◌, sym, ap, map, take}
use Rattle.std.proofs.lemmas.List.{take_all}
use Rattle.wait_conditions.specs.Kept.{waiter_view}
use Rattle.wait_conditions.specs.NextDeadline.{earlier_of, earliest, stored_until}
use Rattle.wait_conditions.specs.WaitsFields.{waiters_view}
use Rattle.wait_conditions.proofs.NextDeadline.{earliest_more}
use Rattle.wait_conditions.proofs.Ordered.{view_more}
use Rattle.wait_conditions.proofs.next_deadline.earliest_deadline.Goals as goal

pub loop-waiter-preserved : goal.loop-waiter-preserved
loop-waiter-preserved c =
    let ws = c.args.waiters.now in
    let n = c.loop-waiter.waiter-index in
    c.earlier_of-next.ensures
    ∙ (ap (λ one. earlier_of one c.awaited_until.result) c.loop-waiter.invariant
    ∙ (ap (earlier_of (earliest (map stored_until (waiters_view (take n ws))))) c.awaited_until.ensures
    ∙ sym (ap (λ ks. earliest (map stored_until ks)) (view_more ws n c.waiter-item.result c.loop-waiter-test.true c.waiter-item.is)
    ∙ earliest_more (waiters_view (take n ws)) (waiter_view c.waiter-item.result))))

pub returns : goal.returns
returns c =
    c.loop-waiter.invariant
    ∙ ap (λ ws. earliest (map stored_until (waiters_view ws))) (take_all c.loop-waiter.waiter-index c.args.waiters.now c.loop-waiter-test.false)
