use Rattle.std.proofs.Common.{◌≡◌, ◌∙◌, ◌+◌, ◌∷◌, ap, sym, subst, drop}
use Rattle.std.proofs.lemmas.List.{drop_more}
use Rattle.wait_conditions.specs.Kept.{waiter_view, oldest_place}
use Rattle.wait_conditions.specs.WaitsFields.{waiters_view}
use Rattle.wait_conditions.specs.Watchers.{BeganInOrder}
use Rattle.wait_conditions.proofs.Ordered.{oldest_is}
use Rattle.wait_conditions.proofs.waiter_list.oldest_of.Goals as goal

pub returns-then-waits_still : goal.returns-then-waits_still
returns-then-waits_still c =
    let ws = c.args.waiters.now in
    let n = c.loop-waiter.waiter-index in
    let rest = drop (n + 1) ws in
    let more : drop n ws ≡ c.waiter-item.result ∷ rest =
    drop_more ws n c.waiter-item.result c.loop-waiter-test.true ∙ ap (λ x. x ∷ rest) (sym c.waiter-item.is) in
    sym (c.loop-waiter.invariant.same
    ∙ (ap (λ js. oldest_place (waiters_view js)) more
    ∙ oldest_is (waiter_view c.waiter-item.result) (waiters_view rest)
    (subst (λ js. BeganInOrder (waiters_view js)) more c.loop-waiter.invariant.began) (sym c.waits_still.ensures ∙ c.if-waits_still.true)))
