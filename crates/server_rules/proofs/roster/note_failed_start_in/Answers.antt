use Rattle.std.proofs.Common.{arith}
use Rattle.event_directory.proofs.Walk.{walk_rest}
use Rattle.server_rules.specs.Roster.{after_failed_start}
use Rattle.server_rules.proofs.Noting.{note_done}
use Rattle.server_rules.proofs.roster.note_failed_start_in.Goals as goal

pub loop-member-preserved : goal.loop-member-preserved
loop-member-preserved c = record {
  rest = walk_rest c.loop-member.members c.args.members.now c.loop-member.member-index _ c.loop-member.invariant.rest;
  done = note_done (after_failed_start c.args.sid) c.loop-member.members _ c.loop-member.member-index _ c.member-item.result
      (omega arith) c.loop-member.invariant.rest c.loop-member.invariant.done c.note_failed_start.ensures;
}
