use Rattle.std.proofs.Common.{◌≡◌, ◌<◌, ℕ}
use Rattle.regex_hir.specs.declared.look.Look as look
use Rattle.regex_nfa.specs.Run.{state_of}
use Rattle.regex_nfa.specs.declared.state.State.TheVariants.{Look}
use Rattle.text_matcher.proofs.walk.has_assertion.Given as goal

abbrev pub invariant-loop-place : goal.invariant-loop-place
invariant-loop-place l = (q : ℕ) → q < l.place → (a : look.Look) (r : ℕ) → state_of l.nfa q ≡ Look a r → ⊥
