-- What a contract sees of the deadlines.
use Rattle.std.specs.Prelude.{ℕ, List}
use Rattle.deadlines.specs.declared.timer.Timer.{Timer}

-- the timers that are set, in rising serial, how many more fit without more memory, and the services that were found due
pub record Armed : Type 0 where
  pub timers : List Timer
  pub spare_capacity : ℕ
  pub found : List ℕ
