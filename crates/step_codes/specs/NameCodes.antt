-- How short texts are coded.
use Rattle.std.specs.Prelude.{ℕ, List, ◌∷◌, ◌++◌, length}

-- bytes, fewer than 256, stand behind their number
abbrev pub bytes_onto : List ℕ → List ℕ → List ℕ
bytes_onto bytes rest = length bytes ∷ (bytes ++ rest)
