-- The words before are the names so far, of which there are at most 16.
use Rattle.std.proofs.Common.{◌≡◌, ◌≤◌, length, map, take}
use Rattle.svc_commands.proofs.names.names_in.Given as goal

abbrev pub invariant-loop-word : goal.invariant-loop-word
invariant-loop-word l = record {
  names : l.names.items ≡ take l.word-index (map (λ w. w.now) l.words);
  few : length l.names.items ≤ 16;
}
