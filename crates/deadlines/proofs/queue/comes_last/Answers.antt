use Rattle.std.proofs.Common.{◌≡◌, ◌∙◌, ◌+◌, ap, arith, length}
use Rattle.deadlines.specs.Queue.{is_before}
use Rattle.deadlines.specs.declared.timer.Timer.{Timer}
use Rattle.deadlines.proofs.MomentOrder.{tells_of_moments}
use Rattle.deadlines.proofs.queue.comes_last.Goals as goal

pub returns : goal.returns
returns c =
    let whole : c.in-Some.end + 1 ≡ length c.args.queue.now = omega (arith, c.in-Some.ensures) in
    tells_of_moments c.args.timer.now c.in-Some.end c.args.queue.now c.index-queue-end.result c.requires whole c.is_before.result
    (c.is_before.ensures ∙ ap (λ (t : Timer). is_before t c.args.timer.now) c.index-queue-end.is)
