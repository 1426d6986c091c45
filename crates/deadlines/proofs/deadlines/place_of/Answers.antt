use Rattle.std.proofs.Common.{◌≡◌, ◌∙◌, ◌+◌, ◌-◌, ◌/◌, ◌<◌, sym, ap, arith, false}
use Rattle.std.specs.Prelude.{nat_lt}
use Rattle.deadlines.specs.declared.timer.Timer.{Timer}
use Rattle.deadlines.proofs.MomentOrder.{in_the_middle, sids_up_to, stop_at}
use Rattle.deadlines.proofs.deadlines.place_of.Goals as goal

pub loop-low-preserved-then-is_below : goal.loop-low-preserved-then-is_below
loop-low-preserved-then-is_below c =
    let middle = c.loop-low.low + (c.loop-low.high - c.loop-low.low) / 2 in
    let within : middle < c.loop-low.high = in_the_middle c.loop-low.low c.loop-low.high c.loop-low-test.true in
    record {
      order = omega (arith, within);
      bound = c.loop-low.invariant.bound;
      before =
          sids_up_to c.args.sid middle c.args.timers.now c.index-timers-middle.result c.requires
          (omega (arith, within, c.loop-low.invariant.bound))
          (ap (λ (t : Timer). nat_lt t.sid c.args.sid) (sym c.index-timers-middle.is) ∙ (sym c.is_below.ensures ∙ c.if-is_below.true));
      stop = c.loop-low.invariant.stop;
    }

pub loop-low-preserved : goal.loop-low-preserved
loop-low-preserved c =
    let middle = c.loop-low.low + (c.loop-low.high - c.loop-low.low) / 2 in
    let within : middle < c.loop-low.high = in_the_middle c.loop-low.low c.loop-low.high c.loop-low-test.true in
    record {
      order = omega arith;
      bound = omega (arith, within, c.loop-low.invariant.bound);
      before = c.loop-low.invariant.before;
      stop =
          stop_at (λ t. nat_lt t.sid c.args.sid ≡ false) middle c.args.timers.now c.index-timers-middle.result
          (omega (arith, within, c.loop-low.invariant.bound))
          (ap (λ (t : Timer). nat_lt t.sid c.args.sid) (sym c.index-timers-middle.is) ∙ (sym c.is_below.ensures ∙ c.if-is_below.false));
    }
