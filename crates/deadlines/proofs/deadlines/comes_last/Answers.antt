use Rattle.std.proofs.Common.{◌≡◌, ◌∙◌, ◌+◌, ap, arith, length}
use Rattle.std.specs.Prelude.{nat_lt}
use Rattle.deadlines.specs.declared.timer.Timer.{Timer}
use Rattle.deadlines.proofs.MomentOrder.{tells_of_sids}
use Rattle.deadlines.proofs.deadlines.comes_last.Goals as goal

pub returns : goal.returns
returns c =
    let whole : c.in-Some.end + 1 ≡ length c.args.timers.now = omega (arith, c.in-Some.ensures) in
    tells_of_sids c.args.sid c.in-Some.end c.args.timers.now c.index-timers-end.result c.requires whole c.is_below.result
    (c.is_below.ensures ∙ ap (λ (t : Timer). nat_lt t.sid c.args.sid) c.index-timers-end.is)
