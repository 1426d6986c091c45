use Rattle.std.proofs.Common.{◌≡◌, ◌+◌, sym, ap, subst, arith, length, true, false, take}
use Rattle.std.specs.Prelude.{slice_get, IfSome, sum_by}
use Rattle.std.specs.List.{list_all, remove}
use Rattle.std.proofs.lemmas.List.Sums.{sum_by-remove}
use Rattle.deadlines.specs.declared.timer.Timer.{Timer}
use Rattle.deadlines.specs.Queue.{is_before, in_moment_order}
use Rattle.deadlines.proofs.MomentOrder.{order_without, found_at}
use Rattle.deadlines.proofs.queue.take_out.Goals as goal

pub remove-requires : goal.remove-requires
remove-requires g c =
    let queue = c.args.queue.now.items in
    let place = c.place_in-place.result in
    let found = found_at c.args.timer.now place queue c.requires.order
    (subst (λ ts. list_all (λ t. is_before t c.args.timer.now) (take place ts) ≡ true) c.deref.ensures.value c.place_in-place.ensures.before)
    (subst (λ ts. IfSome (slice_get ts place) (λ t. is_before t c.args.timer.now ≡ false)) c.deref.ensures.value c.place_in-place.ensures.stop)
    c.requires.there in
    omega (arith, found.0, c.deref.ensures.len, ap length c.deref.ensures.value)

pub returns-clause-order : goal.returns-clause-order
returns-clause-order g c =
    subst (λ ts. in_moment_order ts ≡ true) (sym c.remove.ensures.items)
    (order_without c.place_in-place.result c.args.queue.now.items c.requires.order)

pub returns-clause-left : goal.returns-clause-left
returns-clause-left g c = λ counted.
    let queue = c.args.queue.now.items in
    let place = c.place_in-place.result in
    let found = found_at c.args.timer.now place queue c.requires.order
    (subst (λ ts. list_all (λ t. is_before t c.args.timer.now) (take place ts) ≡ true) c.deref.ensures.value c.place_in-place.ensures.before)
    (subst (λ ts. IfSome (slice_get ts place) (λ t. is_before t c.args.timer.now ≡ false)) c.deref.ensures.value c.place_in-place.ensures.stop)
    c.requires.there in
    subst (λ ts. sum_by counted ts + counted c.args.timer.now ≡ sum_by counted queue) (sym c.remove.ensures.items)
    (subst (λ (t : Timer). sum_by counted (remove queue place) + counted t ≡ sum_by counted queue) (found.1 c.args.timer.now)
    (sum_by-remove counted queue place c.args.timer.now found.0))
