-- What a step under way wants of the services, and what a visit keeps of them.
use Rattle.std.specs.Prelude.{◌≡◌, ℕ, ◌+◌, ◌<◌, ◌≤◌, ◌^◌, List, length, slice_get, Some, All, true}
use Rattle.deadlines.specs.Timers.{is_rising}
use Rattle.supervise_core.specs.declared.chart_state.ChartState.{ChartState}
use Rattle.supervise_core.specs.Service.{Supervised}
use Rattle.svscan_core.specs.declared.moves.ChangedService.{ChangedService}
use Rattle.svscan_core.specs.declared.moves.Moves.{Moves}
use Rattle.svscan_core.specs.declared.visit.Visit.{Visit}
use Rattle.svscan_core.specs.Moving.{services_so_far, step_so_far, KeepNames, TakesAt}
use Rattle.svscan_core.specs.Sound.{IsSound}
use Rattle.svscan_core.specs.Table.{charts_of, names_of, serials_of}
use Rattle.svscan_core.specs.Visit.{visit_move}

-- the serials of the services rise
abbrev pub AreInOrder : List ChartState → Type 0
AreInOrder services = is_rising (serials_of services) ≡ true

-- each service may start this many times more
abbrev pub HaveGenerations : ℕ → List ChartState → Type 0
HaveGenerations more services = All (λ c. c.generation + more < 2 ^ 64) services

-- the services have the serials that they stand with
abbrev pub KeepSerials : List Supervised → List ChangedService → Type 0
KeepSerials services touched = serials_of (services_so_far services touched) ≡ serials_of (charts_of services)

-- the services as the step has them so far are sound, have the names that they stand with, and may each start once more
pub record IsSoundSoFar (next : ℕ) (services : List Supervised) (touched : List ChangedService) : Type 0 where
  pub sound : IsSound next (services_so_far services touched)
  pub names : names_of (services_so_far services touched) ≡ names_of (charts_of services)
  pub generations : HaveGenerations 1 (services_so_far services touched)

-- the service at a place, if there is one, took the visit: the serials and the names stay
pub record IsVisited {A : Type 0} (visit : Visit A) (now place : ℕ) (services : List Supervised) (old new : Moves A) : Type 0 where
  pub takes : (c : ChartState) → slice_get (services_so_far services old.touched.items) place ≡ Some c
      → TakesAt now place c (visit_move visit now c) (step_so_far services old) (step_so_far services new)
  pub serials : serials_of (services_so_far services new.touched.items)
      ≡ serials_of (services_so_far services old.touched.items)
  pub names : KeepNames services old.touched.items → KeepNames services new.touched.items
  pub more : length old.touched.items ≤ length new.touched.items
