use Rattle.std.proofs.Common.{◌≡◌, ◌∙◌, ◌+◌, ◌-◌, ◌/◌, ◌<◌, sym, ap, arith, false}
use Rattle.deadlines.specs.Queue.{is_before}
use Rattle.deadlines.proofs.MomentOrder.{in_the_middle, moments_up_to, stop_at}
use Rattle.deadlines.proofs.queue.place_in.Goals as goal

pub loop-low-preserved-then-is_before : goal.loop-low-preserved-then-is_before
loop-low-preserved-then-is_before c =
    let middle = c.loop-low.low + (c.loop-low.high - c.loop-low.low) / 2 in
    let within : middle < c.loop-low.high = in_the_middle c.loop-low.low c.loop-low.high c.loop-low-test.true in
    record {
      order = omega (arith, within);
      bound = c.loop-low.invariant.bound;
      before =
          moments_up_to c.args.timer.now middle c.args.queue.now c.index-queue-middle.result c.requires
          (omega (arith, within, c.loop-low.invariant.bound))
          (ap (λ t. is_before t c.args.timer.now) (sym c.index-queue-middle.is) ∙ (sym c.is_before.ensures ∙ c.if-is_before.true));
      stop = c.loop-low.invariant.stop;
    }

pub loop-low-preserved : goal.loop-low-preserved
loop-low-preserved c =
    let middle = c.loop-low.low + (c.loop-low.high - c.loop-low.low) / 2 in
    let within : middle < c.loop-low.high = in_the_middle c.loop-low.low c.loop-low.high c.loop-low-test.true in
    record {
      order = omega arith;
      bound = omega (arith, within, c.loop-low.invariant.bound);
      before = c.loop-low.invariant.before;
      stop =
          stop_at (λ t. is_before t c.args.timer.now ≡ false) middle c.args.queue.now c.index-queue-middle.result
          (omega (arith, within, c.loop-low.invariant.bound))
          (ap (λ t. is_before t c.args.timer.now) (sym c.index-queue-middle.is) ∙ (sym c.is_before.ensures ∙ c.if-is_before.false));
    }
