-- What the fields of a plan stand for, and what is true of them.
use Rattle.std.specs.Prelude.{◌≡◌, ⊤, false, map}
use Rattle.wait_conditions.specs.declared.wait_plan.PlannedChange.{PlannedChange}
use Rattle.wait_conditions.specs.declared.wait_plan.PlannedChange.TheVariants.{Stay, Join, Leave}
use Rattle.wait_conditions.specs.declared.wait_plan.WaitsPlan.TheInside.{Inside}
use Rattle.wait_conditions.specs.Kept.{waiter_view}
use Rattle.wait_conditions.specs.WaitsPlans.{ListChange, PlannedWaits}
use Rattle.wait_conditions.specs.WaitsPlans.ListChange.{stay, join, leave}
use Rattle.wait_conditions.specs.Refusal.{repeats_serial}
use Rattle.wait_conditions.specs.WaitsFields.{IsCounted}

-- what becomes of the list of waiters
abbrev pub list_change_of : {A : Type 0} → PlannedChange A → ListChange
list_change_of Stay = stay
list_change_of (Join waiter) = join (waiter_view waiter.value)
list_change_of (Leave id) = leave id

abbrev pub plan_view : {A : Type 0} → Inside A → PlannedWaits
plan_view p = record {
  released = p.released.items;
  answer = p.answer;
  moments = p.moments.items;
  touched = p.touched.items;
  change = list_change_of p.change;
  next = p.next;
}

-- a waiter that is to join: its counters count its services, and none of its services is there twice
abbrev pub JoinsCounted : {A : Type 0} → PlannedChange A → Type 0
JoinsCounted (Join waiter) = IsCounted waiter.value × (repeats_serial (map (λ w. w.sid) waiter.value.watched.items) ≡ false)
JoinsCounted change = ⊤

abbrev pub IsSoundPlan : {A : Type 0} → Inside A → Type 0
IsSoundPlan p = JoinsCounted p.change
