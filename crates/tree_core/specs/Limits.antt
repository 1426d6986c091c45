-- The limits of a tree.
use Rattle.std.specs.Prelude.{ℕ}
-- the most services that stand, which are also the most that come in a step, and the most orders of a step
pub use Rattle.svscan_core.specs.Limits.{service_limit, order_limit}

-- the most names of one wait
abbrev pub name_limit : ℕ
name_limit = 16

-- the most moments of a step
abbrev pub moment_limit : ℕ
moment_limit = 4096
