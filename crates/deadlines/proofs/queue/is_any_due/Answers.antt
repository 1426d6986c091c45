use Rattle.std.proofs.Common.{◌≡◌, rules}
use Rattle.std.specs.Prelude.{Some, slice_get}
use Rattle.deadlines.proofs.MomentOrder.{none_due_yet}
use Rattle.deadlines.proofs.queue.is_any_due.Goals as goal

pub returns-in-Some : goal.returns-in-Some
returns-in-Some c = λ late.
    let first : slice_get c.args.queue.now 0 ≡ Some c.in-Some.timer.now = search rules in
    none_due_yet c.args.now c.in-Some.timer.now c.args.queue.now first
    (rw (c.millis.ensures.value, c.millis-in-Some.ensures.value) at late) c.requires
