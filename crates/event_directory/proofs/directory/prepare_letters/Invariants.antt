use Rattle.std.proofs.Common.{◌≡◌, take, map}
use Rattle.event_directory.specs.Sending.{after_letters, hits_from_letters}
use Rattle.event_directory.proofs.directory.prepare_letters.Given as goal

abbrev pub invariant-loop-letter : goal.invariant-loop-letter
invariant-loop-letter g l = record {
  same : l.directory.standing ≡ l.fn.directory.standing;
  planned : l.directory.planned ≡ l.fn.directory.planned;
  room : l.directory.room ≡ l.fn.directory.room;
  prepared : l.directory.prepared ≡ after_letters g.F.Finds.test (take l.letter-index l.letters) l.fn.directory.prepared;
  hits : map (λ v. v.items) l.hits.items ≡ hits_from_letters g.F.Finds.test (take l.letter-index l.letters) l.fn.directory.prepared;
}
