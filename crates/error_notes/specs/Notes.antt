-- The notes that wait to be written to standard error.
use Rattle.std.specs.Prelude.{ℕ, List, Bool, ◌+◌, ◌-◌, ◌^◌, min}

-- the most bytes that wait
abbrev pub notes_limit : ℕ
notes_limit = 65536

-- the bytes of the notes that wait, oldest first, how many were lost since the last were taken, and whether more may be posted
pub record NotesView : Type 0 where
  pub waiting : List ℕ
  pub lost : ℕ
  pub is_open : Bool

-- the count once one more note is lost; it stays at the greatest number of 64 bits
abbrev pub one_more : ℕ → ℕ
one_more n = min (n + 1) (2 ^ 64 - 1)
