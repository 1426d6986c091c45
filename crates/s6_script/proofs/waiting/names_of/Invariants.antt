use Rattle.std.proofs.Common.{◌≡◌, List, ℕ, length}
use Rattle.std.specs.Prelude.{All, IsTrue}
use Rattle.s6_events.specs.Name.{is_name}
use Rattle.s6_script.proofs.Waits.{NamesSoFar}
use Rattle.s6_script.proofs.waiting.names_of.Given as goal

abbrev pub invariant-loop-names : goal.invariant-loop-names
invariant-loop-names g l = record {
  fits : All (λ name. IsTrue (is_name name)) l.names.items;
  spelled : (names : List (List ℕ)) → All (λ name. IsTrue (is_name name)) names → l.fn.words ≡ names → NamesSoFar names l.names.items l.words;
}

abbrev pub decreases-loop-names : goal.decreases-loop-names
decreases-loop-names g l = length l.words
