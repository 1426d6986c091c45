use Rattle.std.proofs.Common.{◌∙◌, sym, arith}
use Rattle.death_tally.proofs.Items.{next_item, no_list}
use Rattle.death_tally.proofs.exit_list.list_in.Goals as goal

pub returns-in_err-item_of : goal.returns-in_err-item_of
returns-in_err-item_of c =
    c.from_residual.ensures
    ∙ sym (no_list c.args.words.now c.loop-word.word-index c.loop-word.items.items c.loop-word-test.true c.loop-word.invariant.items
    (sym c.item_of.ensures ∙ c.in_err-item_of.was))

pub push-requires : goal.push-requires
push-requires c = (omega arith, omega (arith, c.loop-word.invariant.few, c.loop-word-test.true, c.if-words-gt32.false))

pub loop-word-preserved : goal.loop-word-preserved
loop-word-preserved c = record {
  items =
      rw c.push.ensures.items
      (next_item c.args.words.now c.loop-word.word-index c.loop-word.items.items c.in_ok-item_of.field-0 c.loop-word-test.true
      c.loop-word.invariant.items (sym c.item_of.ensures ∙ c.in_ok-item_of.was));
  few = omega (arith, c.loop-word.invariant.few, c.push.ensures.len);
}
