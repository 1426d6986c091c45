-- The mark that is written behind the last byte of a child.
use Rattle.std.specs.Prelude.{ℕ, List, ◌≡◌, codes, ◌∷◌, ◌++◌, ◌<◌, length, drop}

-- a zero byte, and fifteen letters
abbrev pub end_mark : List ℕ
end_mark = 0 ∷ codes "child-has-ended"

-- these bytes are a beginning of the mark, and not all of it
abbrev pub BeginsMark : List ℕ → Type 0
BeginsMark bytes = (length bytes < 16) × (end_mark ≡ bytes ++ drop (length bytes) end_mark)
