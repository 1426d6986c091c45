-- Work that is done: after the timers or alone, in a step or at once.
use Rattle.std.proofs.Common.{◌≡◌, ◌∙◌, ◌++◌, ℕ, List, [], Bool, false, map, refl, sym, ap, subst, append-nil}
use Rattle.deadlines.specs.declared.timer.TimerChange.TheVariants.{Clear}
use Rattle.s6_events.specs.declared.moment.Moment.{Moment}
use Rattle.s6_events.specs.declared.order.Order.{Order}
use Rattle.supervise_core.specs.declared.chart_state.ChartState.{ChartState}
use Rattle.supervise_core.specs.ChartState.{Moved}
use Rattle.supervise_core.specs.Chart.{fire_move}
use Rattle.supervise_core.specs.Service.{Supervised}
use Rattle.svscan_core.specs.declared.entry.Entry.{Entry}
use Rattle.svscan_core.specs.declared.event.Event.{Event}
use Rattle.svscan_core.specs.declared.moves.ChangedService.{ChangedService}
use Rattle.svscan_core.specs.declared.moves.Moves.{Moves}
use Rattle.svscan_core.specs.declared.registry_plan.RegistryAnswer.{RegistryAnswer}
use Rattle.svscan_core.specs.declared.scan.Scanning.{Scanning}
use Rattle.svscan_core.specs.Deaths.{DeathOf, deaths_after, deaths_given, AllTallied, KeepTallied}
use Rattle.svscan_core.specs.Moves.{moment_of, services_after}
use Rattle.svscan_core.specs.Moving.{StepSoFar, step_so_far, services_so_far, with_changes, timers_of, Takes}
use Rattle.svscan_core.specs.Names.{repeats_name}
use Rattle.svscan_core.specs.Pending.{prepared_of, IsEmptyScan}
use Rattle.svscan_core.specs.Registry.{RegistryPrepared, result_of, table_of}
use Rattle.svscan_core.specs.Scan.{after_scan, dropped_by}
use Rattle.svscan_core.specs.SoFar.{HaveGenerations, IsSoundSoFar}
use Rattle.svscan_core.specs.Sound.{AllAgree, IsSound}
use Rattle.svscan_core.specs.Table.{Table, charts_of, names_of}
use Rattle.svscan_core.specs.Timers.{timer_change_of}
use Rattle.svscan_core.specs.Work.{Work, WorkResult, move_result, with_earlier, work_result}
use Rattle.svscan_core.specs.Work.Work.{apply_listing, do_nothing}
use Rattle.svscan_core.specs.Worked.{IsStepOf, IsWorkOf, WorkIsDone, WorkIsMade}
use Rattle.svscan_core.proofs.Few.{fired_few}
use Rattle.svscan_core.proofs.Generations.{all_fire}
use Rattle.svscan_core.proofs.Names.{fired_names}
use Rattle.svscan_core.proofs.SerialsRise.{fired_numbers}
use Rattle.svscan_core.proofs.Tallied.{no_timer_deaths}
use Rattle.svscan_core.proofs.Working.{made, moves_work, nothing_dropped}

-- where no service leaves or comes, a step leaves the services as it changed them
pub empty_scan : {A : Type 0} (services : List Supervised) (moves : Moves A) (scan : Scanning A) (stale told : Bool) → IsEmptyScan scan
    → stale ≡ told → prepared_of services moves scan stale
    ≡ made (with_changes services moves.touched.items) scan.next_sid moves.events.items moves.orders.items told [] [] (timers_of moves.touched.items)
empty_scan services moves scan stale told e t = λ i. record {
  services = (nothing_dropped (with_changes services moves.touched.items) scan.dropped.items scan.added.items e.dropped e.added) i;
  next_sid = scan.next_sid;
  events = moves.events.items;
  orders = moves.orders.items;
  stale = t i;
  dropped = e.dropped_sids i;
  listed = e.listed i;
  timers = ((λ j. timers_of moves.touched.items ++ (map (λ sid. Clear sid) (e.dropped_sids j) ++ map timer_change_of (charts_of (e.added j))))
      ∙ append-nil (timers_of moves.touched.items)) i;
}

-- work in which every service takes a move
pub moves_done : (work : Work) (now next : ℕ) (move : ChartState → Moved) (told : Bool) (old new : StepSoFar) (p : RegistryPrepared)
    → p ≡ made new.services next new.events new.orders told [] [] new.timers → Takes now move old new
    → record (move_result move (charts_of old.services) next) { stale = told } ≡ work_result work now (charts_of old.services) next
    → deaths_after move (charts_of old.services) ≡ deaths_given work now (charts_of old.services) → WorkIsDone work now next old p
moves_done work now next move told old new p is takes results deaths =
    subst (λ (x : RegistryPrepared). WorkIsDone work now next old x) (sym is)
    (record {
      worked = moves_work new.services next told told [] [] new.timers now move old new refl refl refl refl takes
          ∙ ap (with_earlier old.events old.orders) results;
      agrees = takes.agrees;
      tallies = λ ds before all. subst (λ (more : List DeathOf). AllTallied new.services (ds ++ more)) deaths (takes.tallies ds all);
      timers = takes.timers;
    })

-- no work
pub nothing_done : (now next : ℕ) (old : StepSoFar) (p : RegistryPrepared)
    → p ≡ made old.services next old.events old.orders false [] [] old.timers → WorkIsDone do_nothing now next old p
nothing_done now next old p is =
    subst (λ (x : RegistryPrepared). WorkIsDone do_nothing now next old x) (sym is)
    (record {
      worked = λ i. record {
        services = charts_of old.services;
        next_sid = next;
        events = (sym (append-nil old.events)) i;
        orders = (sym (append-nil old.orders)) i;
        stale = false;
        dropped = [];
        listed = [];
      };
      agrees = λ h at all. all;
      tallies = λ ds before all. subst (λ (x : List DeathOf). AllTallied old.services x) (sym (append-nil ds)) all;
      timers = λ ts a. a;
    })

-- what a scan leaves and gives, from its parts
pub scan_work : (listing : List Entry) (now next : ℕ) (cs : List ChartState) (events : List Event) (orders : List Order) (p : RegistryPrepared)
    → charts_of p.services ≡ (after_scan listing now cs next).services → p.next_sid ≡ (after_scan listing now cs next).next_sid
    → p.events ≡ events ++ (after_scan listing now cs next).events → p.orders ≡ orders ++ (after_scan listing now cs next).orders
    → p.stale ≡ false → p.dropped ≡ dropped_by listing now cs → p.listed ≡ (after_scan listing now cs next).listed
    → result_of p ≡ with_earlier events orders (work_result (apply_listing listing) now cs next)
scan_work listing now next cs events orders p s n e o t d l =
    λ i. record { services = s i; next_sid = n i; events = e i; orders = o i; stale = t i; dropped = d i; listed = l i }

-- a step that has given nothing yet
abbrev pub begun : List Supervised → StepSoFar
begun services = record { services = services; events = []; orders = []; timers = [] }

pub begins : {A : Type 0} (services : List Supervised) (moves : Moves A) → moves.touched.items ≡ [] → moves.events.items ≡ []
    → moves.orders.items ≡ [] → step_so_far services moves ≡ begun services
begins services moves t e o =
    λ i. record { services = with_changes services (t i); events = e i; orders = o i; timers = timers_of (t i) }

from_nothing : (services : List Supervised) (h : List Moment) → AllAgree services h → AllAgree services (h ++ [])
from_nothing services h all = subst (λ (x : List Moment). AllAgree services x) (sym (append-nil h)) all

-- the work alone
pub done_alone : (work : Work) (now next : ℕ) (services : List Supervised) (old : StepSoFar) (p : RegistryPrepared) → old ≡ begun services
    → WorkIsDone work now next old p → IsWorkOf work now (record { services = services; next_sid = next }) p
done_alone work now next services old p is done = first (subst (λ (o : StepSoFar). WorkIsDone work now next o p) is done)
  where
    first : WorkIsDone work now next (begun services) p → IsWorkOf work now (record { services = services; next_sid = next }) p
    first d = record {
      worked = d.worked;
      agrees = λ h at all. d.agrees h at (from_nothing services h all);
      tallies = d.tallies;
      timers = d.timers;
    }

-- the due timers, and then the work
pub done_after_timers : (work : Work) (now next : ℕ) (services : List Supervised) (old fired : StepSoFar) (p : RegistryPrepared)
    → old ≡ begun services → Takes now (fire_move now) old fired → WorkIsDone work now next fired p
    → IsStepOf work now (record { services = services; next_sid = next }) p
done_after_timers work now next services old fired p is takes d =
    first (subst (λ (o : StepSoFar). Takes now (fire_move now) o fired) is takes)
  where
    first : Takes now (fire_move now) (begun services) fired → IsStepOf work now (record { services = services; next_sid = next }) p
    first t = record {
      worked = d.worked ∙ (λ i. with_earlier (t.events i) (t.orders i) (work_result work now (t.services i) next));
      agrees = λ h at all. d.agrees h at (t.agrees h at (from_nothing services h all));
      tallies = λ ds before all. subst (λ (cs : List ChartState). AllTallied p.services (ds ++ deaths_given work now cs)) t.services
          (d.tallies ds before (subst (λ (x : List DeathOf). AllTallied fired.services x)
          (ap (λ more. ds ++ more) (no_timer_deaths now (charts_of services)) ∙ append-nil ds) (t.tallies ds all)));
      timers = λ ts a. d.timers ts (t.timers ts a);
    }

-- before anything is changed, and once the due timers went off, the services are sound
pub begun_sound : (next : ℕ) (services : List Supervised) (touched : List ChangedService) → touched ≡ [] → IsSound next (charts_of services)
    → HaveGenerations 1 (charts_of services) → IsSoundSoFar next services touched
begun_sound next services touched t s g =
    subst (λ (ts : List ChangedService). IsSoundSoFar next services ts) (sym t) (record { sound = s; names = refl; generations = g })

pub fired_sound : (now next : ℕ) (services : List Supervised) (touched : List ChangedService)
    → services_so_far services touched ≡ services_after (fire_move now) (charts_of services) → IsSound next (charts_of services)
    → HaveGenerations 2 (charts_of services) → IsSoundSoFar next services touched
fired_sound now next services touched fired s g =
    let cs = charts_of services in
    record {
      sound = subst (λ (xs : List ChartState). IsSound next xs) (sym fired)
          (record {
            few = fired_few now cs s.few;
            names = ap repeats_name (fired_names now cs) ∙ s.names;
            order = fired_numbers now next cs s.order;
          });
      names = ap names_of fired ∙ fired_names now cs;
      generations = subst (λ (xs : List ChartState). HaveGenerations 1 xs) (sym fired) (all_fire now 18446744073709551616 cs g);
    }

-- a step that is made at once
pub made_at_once : {A : Type 0} (work : Work) (now : ℕ) (old new : Table) (p : RegistryPrepared) (answer : RegistryAnswer A) → new ≡ table_of p
    → answer.events.items ≡ p.events → answer.orders.items ≡ p.orders → answer.dropped.items ≡ p.dropped → answer.listed.items ≡ p.listed
    → IsWorkOf work now old p → WorkIsMade work now old new answer
made_at_once work now old new p answer is e o d l done = record {
  services = ap (λ (t : Table). charts_of t.services) is ∙ ap (λ (w : WorkResult). w.services) done.worked;
  next_sid = ap (λ (t : Table). t.next_sid) is ∙ ap (λ (w : WorkResult). w.next_sid) done.worked;
  events = e ∙ ap (λ (w : WorkResult). w.events) done.worked;
  orders = o ∙ ap (λ (w : WorkResult). w.orders) done.worked;
  dropped = d ∙ ap (λ (w : WorkResult). w.dropped) done.worked;
  listed = l ∙ ap (λ (w : WorkResult). w.listed) done.worked;
  agrees = λ h at all. subst (λ (es : List Event). AllAgree new.services (h ++ map moment_of es)) (sym e)
      (subst (λ (t : Table). AllAgree t.services (h ++ map moment_of p.events)) (sym is) (done.agrees h at all));
  tallies = subst (λ (t : Table). KeepTallied old.next_sid old.services t.services (deaths_given work now (charts_of old.services))) (sym is)
      done.tallies;
}
