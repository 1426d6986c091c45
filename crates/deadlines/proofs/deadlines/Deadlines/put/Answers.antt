use Rattle.std.proofs.Common.{◌≡◌, ◌<◌, length, arith, ◌∙◌, sym, subst, ap, true}
use Rattle.std.specs.Prelude.{is_ok, insert, slice_get, if◌then◌else◌}
use Rattle.deadlines.specs.Deadlines.{Armed}
use Rattle.deadlines.specs.Timers.{rises, with_timer, is_timer_of}
use Rattle.deadlines.specs.Queue.{HaveSameTimers}
use Rattle.deadlines.proofs.MomentOrder.{same_with, same_set, is_there}
use Rattle.deadlines.proofs.Rising.{put_in_place, put_between, rises_set_to, found_within}
use Rattle.deadlines.proofs.deadlines.Deadlines.put.Goals as goal

pub take_out-requires-clause-there : goal.take_out-requires-clause-there
take_out-requires-clause-there g c =
    is_there c.index.result.now c.place_of-place.result c.self.inside.timers.items c.self.inside.queue.items c.self.invariant.same
    (found_within c.args.sid c.place_of-place.result c.self.inside.timers.items
    (subst (λ ts. is_timer_of c.args.sid (slice_get ts c.place_of-place.result) ≡ true) c.deref-2.ensures.value
    (sym c.is_at.ensures ∙ c.if-is_at.true)))
    c.index.ensures

pub index_mut-requires : goal.index_mut-requires
index_mut-requires g c =
    let there : c.place_of-place.result < length c.self.inside.timers.items =
    found_within c.args.sid c.place_of-place.result c.self.inside.timers.items
    (subst (λ ts. is_timer_of c.args.sid (slice_get ts c.place_of-place.result) ≡ true) c.deref-2.ensures.value
    (sym c.is_at.ensures ∙ c.if-is_at.true)) in
    omega (arith, there, c.deref.ensures.len, ap length c.deref.ensures.value)

pub returns-then-is_at-clause-timers : goal.returns-then-is_at-clause-timers
returns-then-is_at-clause-timers g c =
    put_in_place c.args.sid c.args.at c.place_of-place.result c.self.inside.timers.items c.deref.result.now c.deref-2.result.now
    c.deref.ensures.value c.deref-2.ensures.value c.self.invariant.timers c.place_of-place.ensures.before c.place_of-place.ensures.stop
    (sym c.is_at.ensures ∙ c.if-is_at.true)
    ∙ ap (λ (a : Armed). with_timer c.args.sid c.args.at a.timers) c.self.view_is

pub returns-else-is_at-clause-timers : goal.returns-else-is_at-clause-timers
returns-else-is_at-clause-timers g c =
    (c.insert.ensures.items
    ∙ (ap (λ r. if is_ok r then insert c.self.inside.timers.items c.place_of-place.result (record { sid = c.args.sid; at = c.args.at })
    else c.self.inside.timers.items) c.unwrap.ensures
    ∙ put_between c.args.sid c.args.at c.place_of-place.result c.self.inside.timers.items c.deref.result.now c.deref-2.result.now
    c.deref.ensures.value c.deref-2.ensures.value c.self.invariant.timers c.place_of-place.ensures.before c.place_of-place.ensures.stop
    (sym c.is_at.ensures ∙ c.if-is_at.false)))
    ∙ ap (λ (a : Armed). with_timer c.args.sid c.args.at a.timers) c.self.view_is

pub invariant_of-self : goal.invariant_of-self
invariant_of-self g c = record {
  timers =
      subst (λ ts. rises ts ≡ true)
      (sym (put_in_place c.args.sid c.args.at c.place_of-place.result c.self.inside.timers.items c.deref.result.now c.deref-2.result.now
      c.deref.ensures.value c.deref-2.ensures.value c.self.invariant.timers c.place_of-place.ensures.before c.place_of-place.ensures.stop
      (sym c.is_at.ensures ∙ c.if-is_at.true)))
      (rises_set_to c.args.sid c.args.at c.self.inside.timers.items c.self.invariant.timers);
  queue = c.put_in.ensures.order;
  same =
      same_set c.self.inside.timers.items c.self.inside.queue.items c.take_out.new.queue.items c.put_in.new.queue.items c.place_of-place.result
      (record { sid = c.args.sid; at = c.args.at }) c.index.result.now c.self.invariant.same
      (found_within c.args.sid c.place_of-place.result c.self.inside.timers.items
      (subst (λ ts. is_timer_of c.args.sid (slice_get ts c.place_of-place.result) ≡ true) c.deref-2.ensures.value
      (sym c.is_at.ensures ∙ c.if-is_at.true)))
      c.index.ensures c.take_out.ensures.left c.put_in.ensures.more;
}

pub invariant_of-self-else-is_at : goal.invariant_of-self-else-is_at
invariant_of-self-else-is_at g c = record {
  timers =
      subst (λ ts. rises ts ≡ true)
      (sym (c.insert.ensures.items
      ∙ (ap (λ r. if is_ok r then insert c.self.inside.timers.items c.place_of-place.result (record { sid = c.args.sid; at = c.args.at })
      else c.self.inside.timers.items) c.unwrap.ensures
      ∙ put_between c.args.sid c.args.at c.place_of-place.result c.self.inside.timers.items c.deref.result.now c.deref-2.result.now
      c.deref.ensures.value c.deref-2.ensures.value c.self.invariant.timers c.place_of-place.ensures.before c.place_of-place.ensures.stop
      (sym c.is_at.ensures ∙ c.if-is_at.false))))
      (rises_set_to c.args.sid c.args.at c.self.inside.timers.items c.self.invariant.timers);
  queue = c.put_in-else-is_at.ensures.order;
  same =
      subst (HaveSameTimers c.put_in-else-is_at.new.queue.items)
      (sym (c.insert.ensures.items
      ∙ ap (λ r. if is_ok r then insert c.self.inside.timers.items c.place_of-place.result (record { sid = c.args.sid; at = c.args.at })
      else c.self.inside.timers.items) c.unwrap.ensures))
      (same_with c.self.inside.timers.items c.self.inside.queue.items c.put_in-else-is_at.new.queue.items c.place_of-place.result
      (record { sid = c.args.sid; at = c.args.at }) c.self.invariant.same c.put_in-else-is_at.ensures.more);
}
