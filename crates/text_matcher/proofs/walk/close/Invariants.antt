use Rattle.std.proofs.Common.{◌≡◌, ◌<◌, ◌≤◌, ◌-◌, ℕ, true, false, length, get_or, vec_len}
use Rattle.std.specs.Prelude.{Contains, ◌⊎◌}
use Rattle.regex_nfa.specs.Paths.{EmptyEdge}
use Rattle.regex_nfa.specs.Run.{state_of}
use Rattle.regex_nfa.specs.declared.state.State.TheVariants.{Match}
use Rattle.text_matcher.specs.StateLists.{Grows}
use Rattle.text_matcher.specs.Walks.{AllStand, HasMatchState}
use Rattle.text_matcher.proofs.walk.close.Given as goal

abbrev pub invariant-loop-place : goal.invariant-loop-place
invariant-loop-place l = record {
  count : l.reached.count ≡ l.fn.reached.count;
  place : l.place ≤ length l.reached.items;
  grows : Grows l.fn.reached.items l.reached.items;
  closed : (k r : ℕ) → k < l.place → EmptyEdge l.nfa l.bytes l.at (get_or l.reached.items k 0) r → Contains l.reached.items r;
  only : AllStand l.nfa l.bytes l.at l.fn.reached.items → AllStand l.nfa l.bytes l.at l.reached.items;
  found : l.is_found ≡ true → (l.has_matched ≡ true) ⊎ HasMatchState l.nfa l.reached.items;
  none : l.is_found ≡ false
      → (l.has_matched ≡ false) × ((k : ℕ) → k < l.place → state_of l.nfa (get_or l.reached.items k 0) ≡ Match → ⊥);
}

abbrev pub decreases-loop-place : goal.decreases-loop-place
decreases-loop-place l = vec_len l.nfa.states - l.place
