use Rattle.std.proofs.Common.{◌≡◌, ◌<◌, ℕ, true, false, get_or}
use Rattle.std.specs.Prelude.{Contains, ◌⊎◌}
use Rattle.regex_nfa.specs.Paths.{EmptyEdge}
use Rattle.regex_nfa.specs.Run.{state_of}
use Rattle.regex_nfa.specs.declared.state.State.TheVariants.{Match}
use Rattle.text_matcher.specs.Walks.{AllStand, HasMatchState}
use Rattle.text_matcher.proofs.walk.follow_all.Given as goal

abbrev pub invariant-loop-place : goal.invariant-loop-place
invariant-loop-place l = record {
  count : l.beside.count ≡ l.fn.beside.count;
  all : (k r : ℕ) → k < l.place → EmptyEdge l.nfa l.bytes l.at (get_or l.states.items k 0) r → Contains l.beside.items r;
  only : AllStand l.nfa l.bytes l.at l.states.items → AllStand l.nfa l.bytes l.at l.beside.items;
  found : l.is_found ≡ true → (l.has_matched ≡ true) ⊎ HasMatchState l.nfa l.states.items;
  none : l.is_found ≡ false
      → (l.has_matched ≡ false) × ((k : ℕ) → k < l.place → state_of l.nfa (get_or l.states.items k 0) ≡ Match → ⊥);
}
