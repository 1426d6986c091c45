use Rattle.std.proofs.Common.{◌≡◌, take, drop, map}
use Rattle.event_directory.specs.Parts.{followed_of, followed_after, room_of}
use Rattle.event_directory.proofs.listened.begin_each.Given as goal

abbrev pub invariant-loop-directory : goal.invariant-loop-directory
invariant-loop-directory g l = record {
  same : map followed_of l.listened ≡ map followed_of l.fn.listened;
  rooms : map room_of l.listened ≡ map room_of l.fn.listened;
  rest : drop l.directory-index l.listened ≡ drop l.directory-index l.fn.listened;
  done : map followed_after (take l.directory-index l.listened) ≡ map followed_of (take l.directory-index l.fn.listened);
}
