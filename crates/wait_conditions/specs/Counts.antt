-- What the counters of a waiter count, and the verdict that they give.
use Rattle.std.specs.Prelude.{ℕ, List, Bool, ◌==◌, ◌+◌, ◌-◌, nat_lt, is_some, count_by, if◌then◌else◌}
use Rattle.s6_events.specs.declared.condition.Mode.{Mode}
use Rattle.s6_events.specs.declared.condition.Mode.TheVariants as mode
use Rattle.wait_conditions.specs.declared.counts.ServiceCounts.{ServiceCounts}
use Rattle.wait_conditions.specs.declared.verdict.Verdict.TheVariants.{Held, Failed, Gone, TimedOut}
use Rattle.wait_conditions.specs.declared.verdict.WaitState.{WaitState}
use Rattle.wait_conditions.specs.declared.verdict.WaitState.TheVariants.{Waiting, Released}
use Rattle.wait_conditions.specs.declared.watched_service.WatchedService.{WatchedService}
use Rattle.wait_conditions.specs.Verdict.{is_failure_for_good}

-- of how many services the condition holds, of how many it fails, and of how many of these for good
abbrev pub counts_of : List WatchedService → ServiceCounts
counts_of ws = record {
  holding = count_by (λ w. w.holds) ws;
  failing = count_by (λ w. is_some w.failure) ws;
  permanent = count_by (λ w. is_failure_for_good w.failure) ws;
}

-- the condition holds of enough of the services
abbrev pub count_is_enough : Mode → ℕ → ℕ → Bool
count_is_enough mode.All services holding = holding == services
count_is_enough mode.One services holding = nat_lt 0 holding

-- the condition fails of too many of the services
abbrev pub count_is_hopeless : Mode → ℕ → ℕ → Bool
count_is_hopeless mode.All services failing = nat_lt 0 failing
count_is_hopeless mode.One services failing = failing == services

-- the verdict by the counters of the services, where the deadline has come or not
abbrev pub verdict_by : Mode → ℕ → ServiceCounts → Bool → WaitState
verdict_by mode services counts late =
    if count_is_enough mode services counts.holding then Released Held
    else if count_is_hopeless mode services counts.failing then
    (if nat_lt 0 counts.permanent then Released Failed else Released Gone)
    else if late then Released TimedOut
    else Waiting

-- a counter once one service has changed: whether it was counted before, and whether it is now
abbrev pub recounted : ℕ → Bool → Bool → ℕ
recounted count was now = (count + (if now then 1 else 0)) - (if was then 1 else 0)

-- the counters once one service has changed
abbrev pub counts_after : ServiceCounts → WatchedService → WatchedService → ServiceCounts
counts_after counts was now = record {
  holding = recounted counts.holding was.holds now.holds;
  failing = recounted counts.failing (is_some was.failure) (is_some now.failure);
  permanent = recounted counts.permanent (is_failure_for_good was.failure) (is_failure_for_good now.failure);
}
