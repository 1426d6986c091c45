use Rattle.std.proofs.Common.{arith, ◌∙◌}
use Rattle.std.proofs.lemmas.List.{map-append}
use Rattle.event_directory.proofs.Sends.{more_letters, more_hits}
use Rattle.event_directory.proofs.directory.prepare_letters.Goals as goal

pub loop-letter-preserved : goal.loop-letter-preserved
loop-letter-preserved g c = record {
  same = c.prepare_more.ensures.same ∙ c.loop-letter.invariant.same;
  planned = c.prepare_more.ensures.planned ∙ c.loop-letter.invariant.planned;
  room = c.prepare_more.ensures.room ∙ c.loop-letter.invariant.room;
  prepared = more_letters g.F.Finds.test c.args.letters.now c.loop-letter.letter-index c.letter-item.result
      (omega arith) c.letter-item.is _ _ _ c.loop-letter.invariant.prepared c.in_ok-one.ensures.prepared;
  hits = rw (c.in_ok-push.ensures.items, map-append)
      (more_hits g.F.Finds.test c.args.letters.now c.loop-letter.letter-index c.letter-item.result
      (omega arith) c.letter-item.is _ _ _ _ c.loop-letter.invariant.prepared c.loop-letter.invariant.hits c.in_ok-one.ensures.hits);
}
