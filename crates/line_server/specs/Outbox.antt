-- What waits to be written to a connection.
use Rattle.std.specs.Prelude.{ℕ, List, Bool}

-- the most bytes that wait
abbrev pub outbox_limit : ℕ
outbox_limit = 1048576

-- the bytes that wait, oldest first, and whether more may be posted
pub record OutboxView : Type 0 where
  pub unsent : List ℕ
  pub is_open : Bool
