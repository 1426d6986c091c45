-- What bytes begin with: a whole line, part of one, or one that is too long.
use Rattle.std.specs.Prelude.{◌≡◌, ◌≢◌, ℕ, ◌<◌, ◌≤◌, List, ◌∷◌, ◌++◌, All, length, take}

-- the most bytes of a line, with its newline
abbrev pub line_limit : ℕ
line_limit = 8192

-- no byte is a newline
abbrev pub HasNoNewline : List ℕ → Type 0
HasNoNewline bytes = All (λ b. b ≢ 10) bytes

-- the bytes are a line, its newline, and the rest; with its newline the line is within the limit
pub record IsLine (bytes line rest : List ℕ) : Type 0 where
  pub bytes_are : bytes ≡ line ++ 10 ∷ rest
  pub plain : HasNoNewline line
  pub within : length line < line_limit

-- the newline of the first line has not come, and it may still be within the limit
pub record IsPart (bytes : List ℕ) : Type 0 where
  pub plain : HasNoNewline bytes
  pub within : length bytes < line_limit

-- the first line has more bytes than a line may have
pub record IsTooLong (bytes : List ℕ) : Type 0 where
  pub plain : HasNoNewline (take line_limit bytes)
  pub long : line_limit ≤ length bytes
