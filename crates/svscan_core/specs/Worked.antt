-- Work that is done: what it leaves and gives, and what goes on to agree with the services.
use Rattle.std.specs.Prelude.{◌≡◌, ℕ, List, ◌++◌, map}
use Rattle.deadlines.specs.declared.timer.Timer.{Timer}
use Rattle.deadlines.specs.declared.timer.TimerChange.{TimerChange}
use Rattle.deadlines.specs.Timers.{with_timer_changes}
use Rattle.s6_events.specs.Clock.{clock_of}
use Rattle.s6_events.specs.declared.moment.Moment.{Moment}
use Rattle.supervise_core.specs.Chart.{fire_move}
use Rattle.supervise_core.specs.Service.{Supervised}
use Rattle.svscan_core.specs.declared.event.Event.{Event}
use Rattle.svscan_core.specs.declared.registry_plan.RegistryAnswer.{RegistryAnswer}
use Rattle.svscan_core.specs.Deaths.{DeathOf, deaths_given, KeepTallied}
use Rattle.svscan_core.specs.Moves.{moment_of, services_after}
use Rattle.svscan_core.specs.Moving.{StepSoFar, GoOnAgreeing, TimersGoOn}
use Rattle.svscan_core.specs.Registry.{RegistryPrepared, result_of}
use Rattle.svscan_core.specs.Sound.{AllAgree}
use Rattle.svscan_core.specs.Table.{Table, charts_of}
use Rattle.svscan_core.specs.Timers.{TimersAgree}
use Rattle.svscan_core.specs.Work.{Work, WorkResult, work_result, step_result, with_earlier}

-- a history of this moment that agrees with the old services agrees with the new ones, once these events have joined it
abbrev pub KeepAgreeing : ℕ → List Supervised → List Supervised → List Event → Type 0
KeepAgreeing now old new events = (history : List Moment) → clock_of history ≡ now → AllAgree old history
    → AllAgree new (history ++ map moment_of events)

-- timers that agree with the old services agree with the new ones, once these changes are made
abbrev pub KeepTimers : List Supervised → List Supervised → List TimerChange → Type 0
KeepTimers old new changes = (timers : List Timer) → TimersAgree timers (charts_of old)
    → TimersAgree (with_timer_changes changes timers) (charts_of new)

-- what a step would leave and give, as a step under way
abbrev pub so_far_of : RegistryPrepared → StepSoFar
so_far_of p = record { services = p.services; events = p.events; orders = p.orders; timers = p.timers }

-- the work was done on the services as a step had them so far: what it leaves and gives joins what was given before; and the history, the
-- tallies and the timers go on to agree
pub record WorkIsDone (work : Work) (now next : ℕ) (old : StepSoFar) (new : RegistryPrepared) : Type 0 where
  pub worked : result_of new ≡ with_earlier old.events old.orders (work_result work now (charts_of old.services) next)
  pub agrees : GoOnAgreeing now old (so_far_of new)
  pub tallies : KeepTallied next old.services new.services (deaths_given work now (charts_of old.services))
  pub timers : TimersGoOn old (so_far_of new)

-- a step on a table leaves and gives this, and reports these deaths; and the history, the tallies and the timers go on to agree
pub record LeavesAndGives (now : ℕ) (old : Table) (made : WorkResult) (deaths : List DeathOf) (new : RegistryPrepared) : Type 0 where
  pub worked : result_of new ≡ made
  pub agrees : KeepAgreeing now old.services new.services new.events
  pub tallies : KeepTallied old.next_sid old.services new.services deaths
  pub timers : KeepTimers old.services new.services new.timers

-- the work, done at a moment on a table
abbrev pub work_on : Work → ℕ → Table → WorkResult
work_on work now t = work_result work now (charts_of t.services) t.next_sid

-- the step does the work alone
abbrev pub IsWorkOf : Work → ℕ → Table → RegistryPrepared → Type 0
IsWorkOf work now old new = LeavesAndGives now old (work_on work now old) (deaths_given work now (charts_of old.services)) new

-- in the step each service whose timer is due takes its rule, and then the work is done
abbrev pub IsStepOf : Work → ℕ → Table → RegistryPrepared → Type 0
IsStepOf work now old new = LeavesAndGives now old (step_result work now (charts_of old.services) old.next_sid)
    (deaths_given work now (services_after (fire_move now) (charts_of old.services))) new

-- the work was done at once: the table and the answer have what it leaves and gives; and the history and the tallies go on to agree
pub record WorkIsMade {A : Type 0} (work : Work) (now : ℕ) (old new : Table) (answer : RegistryAnswer A) : Type 0 where
  pub services : charts_of new.services ≡ (work_on work now old).services
  pub next_sid : new.next_sid ≡ (work_on work now old).next_sid
  pub events : answer.events.items ≡ (work_on work now old).events
  pub orders : answer.orders.items ≡ (work_on work now old).orders
  pub dropped : answer.dropped.items ≡ (work_on work now old).dropped
  pub listed : answer.listed.items ≡ (work_on work now old).listed
  pub agrees : KeepAgreeing now old.services new.services answer.events.items
  pub tallies : KeepTallied old.next_sid old.services new.services (deaths_given work now (charts_of old.services))
