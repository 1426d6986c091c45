use Rattle.std.proofs.Common.{◌≡◌, ◌++◌, take, map}
use Rattle.event_directory.specs.Hearing.{heard_message, hits_of_message}
use Rattle.event_directory.specs.Parts.{followed_of, followed_after, room_of}
use Rattle.event_directory.proofs.step_letters.hear_letters.Given as goal

abbrev pub invariant-loop-byte : goal.invariant-loop-byte
invariant-loop-byte g l = record {
  same : map followed_of l.listened ≡ map followed_of l.fn.listened;
  rooms : map room_of l.listened ≡ map room_of l.fn.listened;
  prepared : map followed_after l.listened ≡ heard_message g.F.Finds.test l.name (take l.byte-index l.bytes) (map followed_after l.fn.listened);
  matches : l.matches.items ≡ l.fn.matches.items
      ++ hits_of_message g.F.Finds.test l.name (take l.byte-index l.bytes) (map followed_after l.fn.listened);
}
