-- The words of a line.
use Rattle.std.specs.Prelude.{ℕ, List, [], ◌==◌, slice_get, unwrap_or}
use Rattle.std.specs.List.{slice_split}

-- the word of a line at a place, counted from 0; no byte where the line has no such word; between each two words is one space
abbrev pub word_in : List ℕ → ℕ → List ℕ
word_in line place = unwrap_or (slice_get (slice_split (λ b. b == 32) line) place) []
