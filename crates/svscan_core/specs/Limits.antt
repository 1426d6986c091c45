-- The most services of a table, and the most orders of a step.
use Rattle.std.specs.Prelude.{ℕ}

-- the most services that stand
abbrev pub service_limit : ℕ
service_limit = 256

-- the most orders of a step
abbrev pub order_limit : ℕ
order_limit = 768
