use Rattle.std.proofs.Common.{◌≡◌, List, ◌++◌, refl, sym, ap, ◌∙◌}
use Rattle.svscan_core.specs.declared.event.Event.{Event}
use Rattle.tree_core.specs.declared.effect.Release.{Release}
use Rattle.step_codes.proofs.steps.take_outcome.Goals as goal

pub returns : goal.returns
returns c o rest fits is =
    let reply = c.take_reply.ensures o.reply _ fits.reply is in
    let events = c.in_ok-take_list.ensures o.events _ fits.few_events fits.events reply.1 in
    let orders = c.take_orders.ensures o.orders _ fits.few_orders fits.orders events.1 in
    let released = c.in_ok-take_list-2.ensures o.released rest fits.few_released fits.released orders.1 in
    let all_events : c.take_list.new.into.items ≡ o.events = events.0 ∙ ap (λ (xs : List Event). xs ++ o.events) c.clear.ensures.items in
    let all_released : c.take_list-2.new.into.items ≡ o.released =
    released.0 ∙ ap (λ (xs : List Release). xs ++ o.released) c.clear-3.ensures.items in
    let matched : c.clear-2.new.self.items ≡ o.matched = c.clear-2.ensures.items ∙ sym fits.none_matched in
    (rw (reply.0, all_events, orders.0, matched, all_released) refl, released.1)
