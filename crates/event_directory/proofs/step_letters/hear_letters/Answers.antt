use Rattle.std.proofs.Common.{arith, refl, get_or, ◌∙◌}
use Rattle.std.proofs.lemmas.List.Sums.{AllPass-from_list_all}
use Rattle.s6_events.specs.Letter.{is_letter}
use Rattle.event_directory.proofs.Steps.{more_message, more_message_hits}
use Rattle.event_directory.proofs.step_letters.hear_letters.Goals as goal

pub hear_byte-requires : goal.hear_byte-requires
hear_byte-requires g c = AllPass-from_list_all is_letter c.args.bytes.now c.requires c.loop-byte.byte-index 0 (omega arith)

pub loop-byte-preserved : goal.loop-byte-preserved
loop-byte-preserved g c = record {
  same = c.hear_byte.ensures.same ∙ c.loop-byte.invariant.same;
  rooms = c.hear_byte.ensures.rooms ∙ c.loop-byte.invariant.rooms;
  prepared = more_message g.F.Finds.test c.args.name c.args.bytes.now c.loop-byte.byte-index (get_or c.args.bytes.now c.loop-byte.byte-index 0) 0
      (omega arith) refl _ _ _ c.loop-byte.invariant.prepared c.in_ok-hear_byte.ensures.prepared;
  matches = more_message_hits g.F.Finds.test c.args.name c.args.bytes.now c.loop-byte.byte-index
      (get_or c.args.bytes.now c.loop-byte.byte-index 0) 0
      (omega arith) refl _ _ _ _ _ c.loop-byte.invariant.prepared c.loop-byte.invariant.matches c.in_ok-hear_byte.ensures.matches;
}
