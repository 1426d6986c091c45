-- The history of published shots: what its words hold, and what a step on them does.
use Rattle.std.specs.Prelude.{ℕ, ◌≡◌, ◌==◌, true, List, [], ◌∷◌, ◌++◌, length, MatchBool}
use Rattle.logbook.specs.Pages.{Cell, Step, View, Book, Named}
use Rattle.status_board.specs.declared.shot.Shot.{Shot}

-- the first word is the length of the history, and the second is not used
pub record CountsShots (cells : List Cell) (log : List Shot) : Type 0 where
  pub words : cells ≡ (length log, true) ∷ (0, true) ∷ []

-- the first word of a book
abbrev pub count_of : Book → Named
count_of book = record { tracked = true; key = 0; book = book }

-- where the word was as expected, the shot was added to all that had been seen; else nothing is said
abbrev pub Adds : Step Shot → View Shot ℕ → ℕ → View Shot ℕ → Type 0
Adds step before found after = MatchBool (found == step.old) (after.0 ≡ before.0 ++ step.ask ∷ []) (Unit {0})
