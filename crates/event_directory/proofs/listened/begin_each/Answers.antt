use Rattle.std.proofs.Common.{arith}
use Rattle.event_directory.specs.Parts.{followed_of, followed_after, room_of}
use Rattle.event_directory.proofs.Places.{same_followed, same_pair}
use Rattle.event_directory.proofs.Walk.{walk_same, walk_rest, walk_done}
use Rattle.event_directory.proofs.listened.begin_each.Goals as goal

pub loop-directory-preserved : goal.loop-directory-preserved
loop-directory-preserved g c = record {
  same = walk_same followed_of c.loop-directory.listened _ c.loop-directory.directory-index _ c.directory-item.result
      (omega arith) c.loop-directory.invariant.same (same_followed _ _ c.begin.ensures.source c.begin.ensures.same);
  rooms = walk_same room_of c.loop-directory.listened _ c.loop-directory.directory-index _ c.directory-item.result
      (omega arith) c.loop-directory.invariant.rooms (same_pair _ _ _ _ c.begin.ensures.source c.begin.ensures.room);
  rest = walk_rest c.loop-directory.listened c.args.listened.now c.loop-directory.directory-index _ c.loop-directory.invariant.rest;
  done = walk_done followed_after followed_of c.loop-directory.listened _ c.loop-directory.directory-index _ c.directory-item.result
      (omega arith) c.loop-directory.invariant.rest c.loop-directory.invariant.done
      (same_followed _ _ c.begin.ensures.source c.begin.ensures.prepared);
}
