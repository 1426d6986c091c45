-- The next moment at which something is due.
use Rattle.std.specs.Prelude.{ℕ, List, Option, map}
use Rattle.supervise_core.specs.declared.chart_state.ChartState.{ChartState}
use Rattle.wait_conditions.specs.NextDeadline.{earlier_of, earliest, next_deadline}
use Rattle.tree_core.specs.Machine.{Machine, watch_of}

-- the earliest moment to which the timer of a service is set, if one is
abbrev pub next_timer : List ChartState → Option ℕ
next_timer services = earliest (map (λ c. c.timer) services)

-- the earliest moment to which the timer of a service is set, or the deadline of a waiter that waits still
abbrev pub next_due : Machine → Option ℕ
next_due m = earlier_of (next_timer m.services) (next_deadline (watch_of m))
