use Rattle.std.proofs.Common.{◌≡◌, ◌++◌, take, drop}
use Rattle.event_directory.proofs.pattern.hear_all.Given as goal

abbrev pub invariant-loop-letter : goal.invariant-loop-letter
invariant-loop-letter l = record {
  heard : l.matcher.heard ≡ take l.start l.letters ++ take l.letter-index (drop l.start l.letters);
  source : l.matcher.source ≡ l.fn.matcher.source;
}
