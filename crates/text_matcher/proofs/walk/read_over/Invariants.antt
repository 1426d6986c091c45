use Rattle.std.proofs.Common.{◌≡◌, ◌<◌, ℕ, get_or}
use Rattle.std.specs.Prelude.{Contains, Some}
use Rattle.regex_nfa.specs.Run.{state_of}
use Rattle.regex_nfa.specs.States.{next_on}
use Rattle.text_matcher.proofs.walk.read_over.Given as goal

abbrev pub invariant-loop-place : goal.invariant-loop-place
invariant-loop-place l = record {
  count : l.behind.count ≡ l.fn.behind.count;
  all : (k r : ℕ) → k < l.place → next_on l.nfa.transitions.items (state_of l.nfa (get_or l.reached.items k 0)) l.byte ≡ Some r
      → Contains l.behind.items r;
  only : (r : ℕ) → Contains l.behind.items r → (q : ℕ) × Contains l.reached.items q
      × (next_on l.nfa.transitions.items (state_of l.nfa q) l.byte ≡ Some r);
}
