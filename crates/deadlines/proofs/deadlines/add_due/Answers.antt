use Rattle.std.proofs.Common.{◌≡◌, ◌∙◌, ap, sym, subst, refl, true, filter, arith}
use Rattle.std.specs.Prelude.{nat_le}
use Rattle.std.proofs.lemmas.List.{take_all}
use Rattle.deadlines.specs.Timers.{is_rising, due_by}
use Rattle.deadlines.proofs.Rising.{due_somewhere, serials_rise, rises_filtered}
use Rattle.deadlines.proofs.MomentOrder.{none_in_both}
use Rattle.deadlines.proofs.deadlines.add_due.Goals as goal

pub returns-then-not-is_any_due-clause-due : goal.returns-then-not-is_any_due-clause-due
returns-then-not-is_any_due-clause-due g c =
    c.requires.empty
    ∙ sym (none_in_both c.args.now c.args.queue.now c.args.timers.now c.requires.same (c.is_any_due.ensures c.if-not-is_any_due.true))

pub returns-in_err-push-clause-quiet : goal.returns-in_err-push-clause-quiet
returns-in_err-push-clause-quiet g c = λ none.
    absurd (due_somewhere c.args.now c.loop-timer.timer-index c.args.timers.now c.args.timers.now c.timer-item.result
    refl c.loop-timer-test.true c.timer-item.is
    (omega (arith, c.if-millis.true, c.millis.ensures.value, c.millis-in-loop-timer.ensures.value)) none)

pub returns-clause-rising : goal.returns-clause-rising
returns-clause-rising g c =
    subst (λ ns. is_rising ns ≡ true)
    (sym (c.loop-timer.invariant ∙ ap (due_by c.args.now) (take_all c.loop-timer.timer-index c.args.timers.now c.loop-timer-test.false)))
    (serials_rise (filter (λ t. nat_le t.at c.args.now) c.args.timers.now)
    (rises_filtered (λ t. nat_le t.at c.args.now) c.args.timers.now c.requires.rises))
