use Rattle.std.proofs.Common.{◌≡◌, ◌++◌, take, map}
use Rattle.event_directory.specs.Hearing.{heard_moments, hits_of_moments}
use Rattle.event_directory.specs.Parts.{followed_of, followed_after, room_of}
use Rattle.event_directory.proofs.step_letters.hear_moments.Given as goal

abbrev pub invariant-loop-moment : goal.invariant-loop-moment
invariant-loop-moment g l = record {
  same : map followed_of l.listened ≡ map followed_of l.fn.listened;
  rooms : map room_of l.listened ≡ map room_of l.fn.listened;
  prepared : map followed_after l.listened ≡ heard_moments g.F.Finds.test (take l.moment-index l.moments) (map followed_after l.fn.listened);
  matches : l.matches.items ≡ l.fn.matches.items
      ++ hits_of_moments g.F.Finds.test (take l.moment-index l.moments) (map followed_after l.fn.listened);
}
