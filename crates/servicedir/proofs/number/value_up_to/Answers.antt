-- What the first digits say is too much, so all of them say too much.
use Rattle.std.proofs.Common.{rules, ◌<◌, arith}
use Rattle.servicedir.specs.Number.{value_of_digits}
use Rattle.servicedir.proofs.Digits.{too_much}
use Rattle.servicedir.proofs.number.value_up_to.Goals as goal

pub returns-then-value-from : goal.returns-then-value-from
returns-then-value-from c =
    let more : c.args.most < value_of_digits c.args.digits.now =
    too_much c.args.most c.loop-digit.digit-index c.args.digits.now c.loop-digit-test.true
    (omega (arith, c.if-value-from.true, c.from-in-loop-digit.ensures, c.from.ensures, c.loop-digit.invariant.0)) in
    search rules
