-- When an automaton is that of an expression's text.
use Rattle.std.specs.Prelude.{◌≡◌, ℕ, ◌<◌, List, All, length, is_some}
use Rattle.regex_hir.specs.Re.{accept, attempt}
use Rattle.regex_nfa.specs.Run.{run}
use Rattle.regex_nfa.specs.declared.nfa.Nfa.{Nfa}
use Rattle.text_matcher.specs.Expression.{expression_of}

-- at each position of any bytes it finds a match exactly where the expression of this text has one
abbrev pub Matches : Nfa → List ℕ → Type 0
Matches nfa text =
    (bytes : List ℕ) → All (λ b. b < 256) bytes → (i : ℕ)
    → is_some (run nfa bytes (length bytes) nfa.start i) ≡ is_some (attempt bytes (expression_of text) accept i)
