-- The parts of a tree when a step is worked out: what stays as it is, what fits in, and how far the counts grow.
use Rattle.std.specs.Prelude.{◌≡◌, ℕ, ◌+◌, ◌<◌, ◌≤◌, ◌^◌, Bool, List, All, length}
use Rattle.deadlines.specs.Deadlines.{Armed}
use Rattle.deadlines.specs.Timers.{with_timer_changes}
use Rattle.deadlines.specs.declared.timer.Timer.{Timer}
use Rattle.event_directory.specs.Changes.{Offer}
use Rattle.event_directory.specs.Remembered.{Remembered, directories_after_commit, plan_number}
use Rattle.event_directory.specs.declared.directory_plan.DirectoriesPlan.{DirectoriesPlan}
use Rattle.s6_events.specs.History.{Recorded}
use Rattle.svscan_core.specs.Registry.{IsPlanOf, RegistryPrepared, RegistryView, registry_prepared, result_of}
use Rattle.svscan_core.specs.Table.{charts_of}
use Rattle.svscan_core.specs.Timers.{TimersAgree}
use Rattle.svscan_core.specs.Work.{WorkResult}
use Rattle.wait_conditions.specs.Stands.{StoredWaits, WaitsShown, waits_shown}
use Rattle.wait_conditions.specs.WaitsPlans.{FitsWaits, MakesPlan, PlannedWaits}
use Rattle.tree_core.specs.Limits.{moment_limit, service_limit}
use Rattle.tree_core.specs.Machine.{Machine}
use Rattle.tree_core.specs.Plan.{IsNow, Plans, present_state}
use Rattle.tree_core.specs.Replies.{ListenersAnswer}
use Rattle.tree_core.specs.Step.{step_limit}
use Rattle.tree_core.specs.declared.effect.Effect.{Effect}
use Rattle.tree_core.specs.declared.input.Input.{Input}
use Rattle.tree_core.specs.declared.step.StepPlan.{StepPlan}

-- the services, their timers, the history, the waiters and the event directories
pub record TreeParts : Type 0 where
  pub registry : RegistryView
  pub deadlines : Armed
  pub history : Recorded
  pub waits : StoredWaits
  pub directories : Remembered

abbrev pub parts_of : RegistryView → Armed → Recorded → StoredWaits → Remembered → TreeParts
parts_of registry deadlines history waits directories = record {
  registry = registry;
  deadlines = deadlines;
  history = history;
  waits = waits;
  directories = directories;
}

-- what the registry has prepared
abbrev pub prepared_by : RegistryView → RegistryPrepared
prepared_by r = registry_prepared r.shown.services r.planned

-- what the services did by that
abbrev pub work_prepared : RegistryView → WorkResult
work_prepared r = result_of (prepared_by r)

-- what the waiters and the event directories answer by their plans
abbrev pub answers_of : {A : Type 0} → PlannedWaits → DirectoriesPlan A → ListenersAnswer
answers_of waiters letters = record { waiters = waiters.answer; directories = letters.answer }

-- the timers are those of the services, and after a step too each generation, serial and number of a waiter or subscription is one
abbrev pub CanCount : RegistryView → Armed → StoredWaits → Remembered → Type 0
CanCount registry deadlines waits directories = TimersAgree deadlines.timers (charts_of registry.shown.services)
    × All (λ c. c.generation + 2 < 2 ^ 64) (charts_of registry.shown.services)
    × (registry.shown.next_sid + service_limit + 1 < 2 ^ 64)
    × (waits.next < 2 ^ 63)
    × (directories.shown.next < 2 ^ 63)

-- nothing was changed that a step changes
abbrev pub StandAsBefore : TreeParts → TreeParts → Type 0
StandAsBefore old new = (new.registry.shown ≡ old.registry.shown)
    × (new.deadlines.timers ≡ old.deadlines.timers)
    × (new.history.forgotten ≡ old.history.forgotten)
    × (new.history.kept ≡ old.history.kept)
    × (waits_shown new.waits ≡ waits_shown old.waits)
    × (new.directories.shown ≡ old.directories.shown)

-- the plan and what the parts have prepared are the step of each machine that has now what the parts have
abbrev pub PlansStep : {A : Type 0} → ℕ → Bool → TreeParts → Input A → StepPlan A → TreeParts → Effect A → Type 0
PlansStep clock closing old input plan new effect = (steps : ℕ) → steps < step_limit → (m : Machine)
    → IsNow (present_state clock steps closing old.registry.shown.services old.registry.shown.next_sid (waits_shown old.waits)
    old.directories.shown) m
    → (later : WaitsShown) → MakesPlan plan.waiters (waits_shown old.waits) later
    → Plans m input plan (prepared_by new.registry) later new.directories.prepared effect

-- there is room for the plan in each part, and it is the plan that was prepared last
abbrev pub FitsIn : {A : Type 0} → StepPlan A → TreeParts → Type 0
FitsIn plan new = IsPlanOf new.registry plan.services
    × (length plan.history ≤ new.history.spare_capacity)
    × (length plan.timers ≤ new.deadlines.spare_capacity)
    × FitsWaits plan.waiters new.waits
    × (plan_number plan.letters ≡ new.directories.number)

-- by the plan no generation grows by more than 2, the serials by no more than the services that may come, those of waiters and
-- subscriptions by 1, and the history by the moments of a step; and the timers stay those of the services
abbrev pub GrowsBy : {A : Type 0} → TreeParts → StepPlan A → TreeParts → Type 0
GrowsBy old plan new = ((n : ℕ) → All (λ c. c.generation ≤ n) (charts_of old.registry.shown.services)
    → All (λ c. c.generation ≤ n + 2) (charts_of (prepared_by new.registry).services))
    × (new.registry.planned.next_sid ≤ old.registry.shown.next_sid + service_limit)
    × (plan.waiters.next ≤ old.waits.next + 1)
    × ((offer : Offer) → (directories_after_commit new.directories.prepared offer).next ≤ old.directories.shown.next + 1)
    × (length plan.history ≤ moment_limit)
    × ((timers : List Timer) → TimersAgree timers (charts_of old.registry.shown.services)
    → TimersAgree (with_timer_changes plan.timers timers) (charts_of (prepared_by new.registry).services))
