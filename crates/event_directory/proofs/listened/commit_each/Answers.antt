use Rattle.std.proofs.Common.{arith}
use Rattle.event_directory.specs.Parts.{followed_of, followed_after, room_of}
use Rattle.event_directory.proofs.Places.{same_followed, same_pair}
use Rattle.event_directory.proofs.Walk.{walk_same, walk_rest, walk_done}
use Rattle.event_directory.proofs.listened.commit_each.Goals as goal

pub loop-directory-preserved : goal.loop-directory-preserved
loop-directory-preserved g c = record {
  rooms = walk_same room_of c.loop-directory.listened _ c.loop-directory.directory-index _ c.directory-item.result
      (omega arith) c.loop-directory.invariant.rooms (same_pair _ _ _ _ c.hear_prepared.ensures.source c.hear_prepared.ensures.room);
  rest = walk_rest c.loop-directory.listened c.args.listened.now c.loop-directory.directory-index _ c.loop-directory.invariant.rest;
  done = walk_done followed_of followed_after c.loop-directory.listened _ c.loop-directory.directory-index _ c.directory-item.result
      (omega arith) c.loop-directory.invariant.rest c.loop-directory.invariant.done
      (same_followed _ _ c.hear_prepared.ensures.source c.hear_prepared.ensures.after);
}
