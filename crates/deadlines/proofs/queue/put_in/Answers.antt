use Rattle.std.proofs.Common.{◌≡◌, ◌∙◌, sym, ap, subst, true, false, take}
use Rattle.std.specs.Prelude.{is_ok, insert, if◌then◌else◌, slice_get, IfSome}
use Rattle.std.specs.List.{list_all}
use Rattle.deadlines.specs.Queue.{is_before, in_moment_order}
use Rattle.deadlines.proofs.MomentOrder.{order_with}
use Rattle.deadlines.proofs.queue.put_in.Goals as goal

pub returns-clause-order : goal.returns-clause-order
returns-clause-order g c =
    let queue = c.args.queue.now.items in
    let place = c.place_in-place.result in
    subst (λ ts. in_moment_order ts ≡ true)
    (sym (c.insert.ensures.items ∙ ap (λ r. if is_ok r then insert queue place c.args.timer.now else queue) c.unwrap.ensures))
    (order_with place c.args.timer.now queue c.requires.order
    (subst (λ ts. list_all (λ t. is_before t c.args.timer.now) (take place ts) ≡ true) c.deref.ensures.value c.place_in-place.ensures.before)
    (subst (λ ts. IfSome (slice_get ts place) (λ t. is_before t c.args.timer.now ≡ false)) c.deref.ensures.value c.place_in-place.ensures.stop))
