-- The services that stand, and the room for more.
use Rattle.std.specs.Prelude.{ℕ, List}
use Rattle.supervise_core.specs.Service.{Supervised}

-- the services in the order in which they were added, and how many more can be added without more memory
pub record SlotsView : Type 0 where
  pub services : List Supervised
  pub room : ℕ
