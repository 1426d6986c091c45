-- The letters of one call order at most one run.
use Rattle.std.proofs.Common.{ℕ, ◌+◌, ◌≤◌, List, [], ◌∷◌, fold, arith, rules}
use Rattle.control_letters.specs.declared.control_letter.ControlLetter.{ControlLetter}
use Rattle.supervise_core.specs.declared.chart_state.ChartState.{ChartState}
use Rattle.supervise_core.specs.ChartState.{Moved, no_move}
use Rattle.supervise_core.specs.ControlLetters.{letter_move, then_move, control_move}
use Rattle.supervise_core.specs.LetterBounds.{runs_left}

-- a move leaves at most as many runs as there were
abbrev pub Spends : ChartState → Moved → Type 0
Spends c moved = moved.chart.generation + runs_left moved.chart.phase ≤ c.generation + runs_left c.phase

spends_letter : (now : ℕ) (letter : ControlLetter) (c : ChartState) → Spends c (letter_move now letter c)
spends_letter now letter c = search rules

spends_rest : (now : ℕ) (letters : List ControlLetter) (c : ChartState) (m : Moved) → Spends c m
    → Spends c (fold (λ so_far letter. then_move (letter_move now letter) so_far) m letters)
spends_rest now [] c m h = h
spends_rest now (letter ∷ rest) c m h =
    spends_rest now rest c (then_move (letter_move now letter) m) (omega (arith, h, spends_letter now letter m.chart))

pub spends_control : (letters : List ControlLetter) (now : ℕ) (c : ChartState) → Spends c (control_move letters now c)
spends_control letters now c = spends_rest now letters c (no_move c) (omega arith)
