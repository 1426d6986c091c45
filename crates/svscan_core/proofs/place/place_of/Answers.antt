use Rattle.std.proofs.Common.{◌≡◌, ◌+◌, ◌-◌, ◌/◌, ◌<◌, ◌≤◌, arith, rules, inl, inr}
use Rattle.std.proofs.lemmas.Bool.{cases_lt}
use Rattle.svscan_core.specs.Table.{charts_of, serials_of}
use Rattle.svscan_core.proofs.Found.{serial_read, lower_up_to, higher_from, in_the_middle, none_there, is_lower, is_higher}
use Rattle.svscan_core.proofs.place.place_of.Goals as goal

pub returns-then-eq-clause-found : goal.returns-then-eq-clause-found
returns-then-eq-clause-found g c =
    let middle = c.loop-low.low + (c.loop-low.high - c.loop-low.low) / 2 in
    let own : c.args.sid ≡ c.in_ok-nth.field-0.now.chart.sid = search rules in
    serial_read c.args.slots.now.services middle c.args.sid c.in_ok-nth.field-0.now c.in_ok-nth.ensures own

pub loop-low-preserved-then-lt : goal.loop-low-preserved-then-lt
loop-low-preserved-then-lt g c =
    let middle = c.loop-low.low + (c.loop-low.high - c.loop-low.low) / 2 in
    let at = c.sid-at.result in
    let services = c.args.slots.now.services in
    let within : middle < c.loop-low.high = in_the_middle c.loop-low.low c.loop-low.high c.loop-low-test.true in
    record {
      order = omega (arith, within);
      bound = c.loop-low.invariant.bound;
      below = lower_up_to (serials_of (charts_of services)) middle at c.args.sid c.requires.order
          (serial_read services middle at c.in_ok-nth.field-0.now c.in_ok-nth.ensures c.sid-at.ensures)
          (is_lower at c.args.sid c.lt.result c.lt.ensures c.if-lt.true);
      above = c.loop-low.invariant.above;
    }

pub loop-low-preserved : goal.loop-low-preserved
loop-low-preserved g c =
    let middle = c.loop-low.low + (c.loop-low.high - c.loop-low.low) / 2 in
    let at = c.sid-at.result in
    let services = c.args.slots.now.services in
    let within : middle < c.loop-low.high = in_the_middle c.loop-low.low c.loop-low.high c.loop-low-test.true in
    record {
      order = omega arith;
      bound = omega (arith, within, c.loop-low.invariant.bound);
      below = c.loop-low.invariant.below;
      above = higher_from (serials_of (charts_of services)) middle at c.args.sid c.requires.order
          (serial_read services middle at c.in_ok-nth.field-0.now c.in_ok-nth.ensures c.sid-at.ensures)
          (is_higher at c.args.sid c.eq.result c.lt.result c.eq.ensures c.lt.ensures c.if-eq.false c.if-lt.false);
    }

pub returns-clause-none : goal.returns-clause-none
returns-clause-none g c =
    none_there c.args.slots.now.services c.args.sid (λ p n e same. elim (cases_lt p c.loop-low.low) [
      | inl before ↦ let less : n < c.args.sid = c.loop-low.invariant.below p n e before in omega (arith, same, less)
      | inr behind ↦ let from : c.loop-low.high ≤ p = omega (arith, behind, c.loop-low-test.false) in
          let more : c.args.sid < n = c.loop-low.invariant.above p n e from in omega (arith, same, more)
    ])
