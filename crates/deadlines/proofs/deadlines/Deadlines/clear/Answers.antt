use Rattle.std.proofs.Common.{◌≡◌, ◌<◌, length, ◌∙◌, sym, subst, ap, true}
use Rattle.std.specs.Prelude.{slice_get}
use Rattle.deadlines.specs.Deadlines.{Armed}
use Rattle.deadlines.specs.Timers.{rises, without_timer, is_timer_of}
use Rattle.deadlines.specs.Queue.{HaveSameTimers}
use Rattle.deadlines.proofs.MomentOrder.{same_without}
use Rattle.deadlines.proofs.Rising.{clear_there, clear_nothing, rises_cleared, found_within}
use Rattle.deadlines.proofs.deadlines.Deadlines.clear.Goals as goal

pub returns-then-is_at-clause-timers : goal.returns-then-is_at-clause-timers
returns-then-is_at-clause-timers g c =
    (c.remove-timer.ensures.items ∙ clear_there c.args.sid c.place_of-place.result c.self.inside.timers.items c.deref.result.now c.deref-2.result.now
    c.deref.ensures.value c.deref-2.ensures.value c.self.invariant.timers c.place_of-place.ensures.before c.place_of-place.ensures.stop
    (sym c.is_at.ensures ∙ c.if-is_at.true))
    ∙ ap (λ (a : Armed). without_timer c.args.sid a.timers) c.self.view_is

pub returns-else-is_at-clause-timers : goal.returns-else-is_at-clause-timers
returns-else-is_at-clause-timers g c =
    subst (λ (a : Armed). a.timers ≡ without_timer c.args.sid a.timers) c.self.view_is
    (clear_nothing c.args.sid c.place_of-place.result c.self.inside.timers.items c.deref.result.now c.deref-2.result.now
    c.deref.ensures.value c.deref-2.ensures.value c.self.invariant.timers c.place_of-place.ensures.before c.place_of-place.ensures.stop
    (sym c.is_at.ensures ∙ c.if-is_at.false))

pub invariant_of-self : goal.invariant_of-self
invariant_of-self g c =
    let timers = c.self.inside.timers.items in
    let place = c.place_of-place.result in
    let there : place < length timers =
    found_within c.args.sid place timers
    (subst (λ ts. is_timer_of c.args.sid (slice_get ts place) ≡ true) c.deref-2.ensures.value (sym c.is_at.ensures ∙ c.if-is_at.true)) in
    record {
      timers =
          subst (λ ts. rises ts ≡ true)
          (sym (c.remove-timer.ensures.items
          ∙ clear_there c.args.sid place timers c.deref.result.now c.deref-2.result.now
          c.deref.ensures.value c.deref-2.ensures.value c.self.invariant.timers c.place_of-place.ensures.before c.place_of-place.ensures.stop
          (sym c.is_at.ensures ∙ c.if-is_at.true)))
          (rises_cleared c.args.sid timers c.self.invariant.timers);
      queue = c.take_out.ensures.order;
      same =
          subst (HaveSameTimers c.take_out.new.queue.items) (sym c.remove-timer.ensures.items)
          (same_without timers c.self.inside.queue.items c.take_out.new.queue.items place c.remove-timer.result c.self.invariant.same there
          c.remove-timer.ensures.value c.take_out.ensures.left);
    }
