use Rattle.std.proofs.Common.{rules, ◌≡◌, ◌<◌, ◌+◌, ◌-◌, ◌++◌, [], ◌∷◌, ℕ, List, length, take, refl, sym, ap, subst, ◌∙◌, arith}
use Rattle.std.proofs.lemmas.List.{append-nil, append_assoc}
use Rattle.s6_events.specs.declared.order.Order.{Order}
use Rattle.order_lanes.specs.Lane.{sent_in}
use Rattle.order_lanes.specs.LaneOrders.{orders_of_lane}
use Rattle.order_lanes.proofs.Changing.{orders_more}
use Rattle.order_lanes.proofs.lane_orders.send_all.Goals as goal

pub loop-order-init : goal.loop-order-init
loop-order-init g c = (refl, grind (arith, rules), λ k below. sym (append-nil _), λ k l at. let r = c.requires.room k l at in omega arith)

pub send_one-requires-clause-room : goal.send_one-requires-clause-room
send_one-requires-clause-room g c k l at = let r = c.loop-order.invariant.3 k l at in let t = c.loop-order-test.true in omega arith

pub loop-order-preserved : goal.loop-order-preserved
loop-order-preserved g c =
    let inv = c.loop-order.invariant in
    let old = c.loop-order.lanes.items in
    let os = c.args.orders.now in
    let i = c.loop-order.order-index in
    let x = c.order-item.result in
    let count = c.len-count.result in
    let len : length old ≡ count = inv.0 ∙ sym inv.1 in
    let t = c.loop-order-test.true in (
      c.send_one.ensures.len ∙ inv.0,
      inv.1,
      λ k below.
          let sent : sent_in k c.send_one.new.lanes.items ≡ sent_in k old ++ orders_of_lane count k (x ∷ []) =
          subst (λ (n : ℕ). sent_in k c.send_one.new.lanes.items ≡ sent_in k old ++ orders_of_lane n k (x ∷ [])) len
          (c.send_one.ensures.sent k (subst (λ (n : ℕ). k < n) (sym len) below)) in
          sent ∙ (ap (λ (ys : List Order). ys ++ orders_of_lane count k (x ∷ [])) (inv.2 k below)
          ∙ (append_assoc (sent_in k c.args.lanes.now.items) (orders_of_lane count k (take i os)) (orders_of_lane count k (x ∷ []))
          ∙ ap (λ (ys : List Order). sent_in k c.args.lanes.now.items ++ ys) (sym (orders_more count k i x os t c.order-item.is)))),
      λ k l at. c.send_one.ensures.room (length os - (i + 1)) (λ j m is. let r = inv.3 j m is in omega arith) k l at,
    )
