-- How a tool stopped whose output was flushed after that.
use Rattle.std.specs.Prelude.{ℕ, List, Option}
use Rattle.std.specs.Io.KnownBytes.{Keeps}

-- the tool stopped as `stops` says, and the flush left what the writer held as it was
abbrev pub IsFlushed : (stops : Option (List ℕ) → Type 0) → (held' : Option (List ℕ)) → Type 0
IsFlushed stops held' = (between : Option (List ℕ)) × stops between × Keeps between held'
