-- What the moments since a waiter began say of it.
use Rattle.std.specs.Prelude.{ℕ, List, Bool, true, false, Option, Some, None, is_some, if◌then◌else◌, nat_le}
use Rattle.std.specs.List.{list_all, list_any}
use Rattle.s6_events.specs.declared.moment.Moment.{Moment}
use Rattle.s6_events.specs.declared.moment.Moment.TheVariants.{Clock, Event}
use Rattle.s6_events.specs.declared.condition.Condition.{Condition}
use Rattle.s6_events.specs.declared.condition.Mode.{Mode}
use Rattle.s6_events.specs.declared.condition.Mode.TheVariants as mode
use Rattle.wait_conditions.specs.declared.condition_fails.Failure.{Failure}
use Rattle.wait_conditions.specs.declared.condition_fails.Failure.TheVariants.{Permanent}
use Rattle.wait_conditions.specs.declared.verdict.Verdict.TheVariants.{Held, Failed, Gone, TimedOut}
use Rattle.wait_conditions.specs.declared.verdict.WaitState.{WaitState}
use Rattle.wait_conditions.specs.declared.verdict.WaitState.TheVariants.{Waiting, Released}
use Rattle.wait_conditions.specs.Holds.{holds}
use Rattle.wait_conditions.specs.Fails.{failure}

-- what a waiter was made with: a deadline is a moment in milliseconds
pub record WaitTerms : Type 0 where
  pub condition : Condition
  pub mode : Mode
  pub sids : List ℕ
  pub deadline : Option ℕ

-- a clock reading at or past the deadline
abbrev pub reaches : ℕ → Moment → Bool
reaches deadline (Clock at) = nat_le deadline at
reaches deadline (Event sid mark) = false

-- the moments have such a clock reading, if there is a deadline
abbrev pub is_late : Option ℕ → List Moment → Bool
is_late None since = false
is_late (Some deadline) since = list_any (reaches deadline) since

-- a failure for good
abbrev pub is_failure_for_good : Option Failure → Bool
is_failure_for_good (Some Permanent) = true
is_failure_for_good _ = false

-- all the services pass the test, or one of them
abbrev pub is_enough : Mode → (ℕ → Bool) → List ℕ → Bool
is_enough mode.All test sids = list_all test sids
is_enough mode.One test sids = list_any test sids

-- one of the services fails where all are to pass; all fail where one is enough
abbrev pub is_hopeless : Mode → (ℕ → Bool) → List ℕ → Bool
is_hopeless mode.All test sids = list_any test sids
is_hopeless mode.One test sids = list_all test sids

-- held, else failed or gone, else timed out, else waiting
abbrev pub verdict : WaitTerms → List Moment → List Moment → WaitState
verdict a past since =
    if is_enough a.mode (λ sid. holds a.condition sid past since) a.sids then Released Held
    else if is_hopeless a.mode (λ sid. is_some (failure a.condition sid past since)) a.sids then
    (if list_any (λ sid. is_failure_for_good (failure a.condition sid past since)) a.sids then Released Failed
    else Released Gone)
    else if is_late a.deadline since then Released TimedOut
    else Waiting
