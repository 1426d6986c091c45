use Rattle.std.proofs.Common.{◌≡◌, ◌<◌, ℕ, suc, ◌+◌, List, [], ◌∷◌, ◌++◌, take, drop, length, refl, sym, ap, ◌∙◌, arith}
use Rattle.std.specs.Result.{IsOk}
use Rattle.std.proofs.lemmas.List.{length-take}
use Rattle.s6_events.specs.declared.order.Order.{Order}
use Rattle.tree_core.specs.Limits.{order_limit}
use Rattle.step_codes.specs.ListCodes.{items_onto}
use Rattle.step_codes.specs.OrderCodes.{order_onto, FitsOrder}
use Rattle.step_codes.proofs.OnSuccess.{of_ok}
use Rattle.step_codes.proofs.ItemCodes.{item_at, min_low}
use Rattle.step_codes.proofs.steps.take_orders.Goals as goal

pub loop-preserved : goal.loop-preserved
loop-preserved c orders rest few all is =
    let before = c.loop.invariant orders rest few all is in
    let k = c.loop.counter in
    let low : k < length orders = let n = before.0 in let b = c.loop-test.true in omega arith in
    let one = item_at FitsOrder k orders low in
    let taken = c.take.ensures one.item (items_onto order_onto (drop (suc k) orders) rest) (one.fit all)
    (before.2 ∙ ap (λ (xs : List Order). items_onto order_onto xs rest) one.left) in
    let next : k + 1 ≡ suc k = omega arith in
    let len : length c.loop.into.items ≡ k = ap (λ (xs : List Order). length xs) before.1 ∙ (length-take k orders ∙ min_low k (length orders) low) in
    let ok : IsOk c.try_push-left_out.result = c.try_push-left_out.ensures.variant.1 (let l : order_limit ≡ 768 = refl in omega arith) in
    let kept : c.try_push-left_out.new.self.items ≡ c.loop.into.items ++ c.take.result ∷ [] = of_ok _ ok c.try_push-left_out.ensures.ok in (
      before.0,
      kept
          ∙ (ap (λ (xs : List Order). xs ++ c.take.result ∷ []) before.1
          ∙ (ap (λ (x : Order). take k orders ++ x ∷ []) taken.0
          ∙ (sym one.before ∙ ap (λ (n : ℕ). take n orders) (sym next)))),
      rw next taken.1,
    )
