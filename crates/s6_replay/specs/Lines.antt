-- What reading a line takes from a reader.
use Rattle.std.specs.Prelude.{◌≡◌, ◌≢◌, ℕ, ◌<◌, ◌≤◌, List, [], ◌∷◌, ◌++◌, All, length, Option, None, Some, ◌⊎◌}
use Rattle.std.specs.Io.KnownBytes.{Consumes, IsAtEnd}
use Rattle.s6_replay.specs.declared.line.Ended.{Ended}
use Rattle.s6_replay.specs.declared.line.Ended.TheVariants.{Newline, End, TooLong}

-- no byte is a newline
abbrev pub HasNoNewline : List ℕ → Type 0
HasNoNewline line = All (λ b. b ≢ 10) line

-- a part of a line: no newline has come, and it is within the limit
pub record IsPart (limit : ℕ) (line : List ℕ) : Type 0 where
  pub plain : HasNoNewline line
  pub within : length line ≤ limit

-- at most one line, within the limit: its newline has not come, or is the last byte
abbrev pub IsWithinLine : ℕ → List ℕ → Type 0
IsWithinLine limit bytes = IsPart limit bytes ⊎
    ((line : List ℕ) × HasNoNewline line × (length line < limit) × (bytes ≡ line ++ 10 ∷ []))

-- how a line ended: by its newline, within the limit; by the end of the input; or not at all, since it went on beyond the limit
abbrev pub EndsAs : ℕ → Ended → Option (List ℕ) → Option (List ℕ) → List ℕ → Type 0
EndsAs limit Newline old new line = HasNoNewline line × (length line < limit) × Consumes old new (line ++ 10 ∷ [])
EndsAs limit End old new line = HasNoNewline line × (length line ≤ limit) × Consumes old new line × IsAtEnd new
EndsAs limit TooLong old new line =
    HasNoNewline line × (length line ≡ limit) × ((b : ℕ) × Consumes old new (line ++ b ∷ []))

-- a line that began at `old`, as far as it was read: it has not ended and is within the limit, or it ended as `ended` says
abbrev pub GoesOnOrEnds : ℕ → Option Ended → Option (List ℕ) → Option (List ℕ) → List ℕ → Type 0
GoesOnOrEnds limit None old new line = IsPart limit line × Consumes old new line
GoesOnOrEnds limit (Some ended) old new line = EndsAs limit ended old new line
