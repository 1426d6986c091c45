-- What is true of every tree.
use Rattle.std.specs.Prelude.{ℕ, ◌+◌, ◌*◌, ◌≤◌, List, length, All}
use Rattle.s6_events.specs.declared.moment.Moment.{Moment}
use Rattle.supervise_core.specs.declared.chart_state.ChartState.{ChartState}
use Rattle.tree_core.specs.Limits.{service_limit, moment_limit}
use Rattle.tree_core.specs.Step.{step_limit}

-- the number of steps limits the serials of services, waiters and subscriptions, and the generations
pub record IsCounted (taken next next_waiter next_subscription : ℕ) (services : List ChartState) : Type 0 where
  pub steps : taken ≤ step_limit
  pub serials : next ≤ service_limit * taken + 1
  pub waiters : next_waiter ≤ taken + 1
  pub subscriptions : next_subscription ≤ taken + 1
  pub generations : All (λ c. c.generation ≤ 2 * taken) services

-- the history has at most `moment_limit` moments for each step
pub record IsRecorded (taken forgotten : ℕ) (kept : List Moment) : Type 0 where
  pub few : forgotten + length kept ≤ moment_limit * taken
