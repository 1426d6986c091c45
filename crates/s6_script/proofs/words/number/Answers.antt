use Rattle.std.proofs.Common.{◌≡◌, ◌<◌, ◌^◌, arith}
use Rattle.s6_script.proofs.Numbers.{one_digit_more, all_digits_read}
use Rattle.s6_script.proofs.words.number.Goals as goal

pub loop-byte-preserved : goal.loop-byte-preserved
loop-byte-preserved c = record {
  read = one_digit_more c.args.word.now c.loop-byte.byte-index c.loop-byte.value _ c.loop-byte-test.true c.loop-byte.invariant.read
      c.with_digit-value.ensures;
}

pub returns-clause-spelled : goal.returns-clause-spelled
returns-clause-spelled c = λ n le e.
    let small : n < 2 ^ 64 = omega arith in
    let value : c.loop-byte.value ≡ n =
    all_digits_read c.args.word.now c.loop-byte.byte-index c.loop-byte.value n c.loop-byte-test.false c.loop-byte.invariant.read small e in
    omega (arith, value)
