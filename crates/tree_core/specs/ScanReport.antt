-- What a scan answers.
use Rattle.std.specs.Prelude.{ℕ, List}
use Rattle.svscan_core.specs.declared.entry.Listed.{Listed}

-- the services that were dropped, and what became of each name for which no service stood
pub record Reported : Type 0 where
  pub dropped : List ℕ
  pub listed : List Listed
