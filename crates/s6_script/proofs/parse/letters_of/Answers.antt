use Rattle.s6_script.proofs.Letters.{one_letter_more}
use Rattle.s6_script.proofs.parse.letters_of.Goals as goal

pub loop-byte-preserved : goal.loop-byte-preserved
loop-byte-preserved c = record {
  few = c.add_letter.ensures.few;
  spelled = λ letters few spelled.
      one_letter_more c.args.word.now letters c.loop-byte.letters.items c.add_letter.new.letters.items c.loop-byte.byte-index
      c.loop-byte-test.true spelled few (c.loop-byte.invariant.spelled letters few spelled) c.add_letter.ensures.spelled;
}
