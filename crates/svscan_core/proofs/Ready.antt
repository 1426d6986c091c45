-- A step that was worked out, and the places for it.
use Rattle.std.proofs.Common.{◌≡◌, ◌≤◌, ◌∙◌, ℕ, List, length, sym, ap, subst}
use Rattle.supervise_core.specs.Service.{Supervised}
use Rattle.svscan_core.specs.declared.pending.Pending.{Pending}
use Rattle.svscan_core.specs.Moving.{with_changes, KeepNames}
use Rattle.svscan_core.specs.Pending.{planned_of, IsBlank}
use Rattle.svscan_core.specs.Registry.{Fits, PlannedStep, RegistryPrepared, RegistryView, registry_prepared, result_of, idle_of, IsSoundTable}
use Rattle.svscan_core.specs.Sound.{IsSound}
use Rattle.svscan_core.specs.Table.{charts_of}
use Rattle.supervise_core.specs.declared.change.Change.{Change}
use Rattle.supervise_core.specs.declared.chart_state.ChartState.{ChartState}
use Rattle.svscan_core.specs.Moves.{services_after}
use Rattle.svscan_core.specs.Work.{Work, WorkResult, change_move_at, step_result, work_result}
use Rattle.svscan_core.specs.Work.Work.{change_one}
use Rattle.svscan_core.proofs.Few.{step_few, work_few}
use Rattle.svscan_core.proofs.Names.{step_names, work_names}
use Rattle.svscan_core.proofs.SerialsRise.{step_numbers, work_numbers}
use Rattle.svscan_core.proofs.Working.{nothing_dropped}

-- a step leaves a sound table
pub sound_step : (p : RegistryPrepared) (work : Work) (now next : ℕ) (services : List Supervised) → IsSound next (charts_of services)
    → result_of p ≡ step_result work now (charts_of services) next → IsSoundTable p
sound_step p work now next services s e =
    subst (λ (w : WorkResult). IsSound w.next_sid w.services) (sym e)
    (record {
      few = step_few work now (charts_of services) next s.few;
      names = step_names work now (charts_of services) next s.names;
      order = step_numbers work now (charts_of services) next s.order;
    })

pub sound_work : (p : RegistryPrepared) (work : Work) (now next : ℕ) (services : List Supervised) → IsSound next (charts_of services)
    → result_of p ≡ work_result work now (charts_of services) next → IsSoundTable p
sound_work p work now next services s e =
    subst (λ (w : WorkResult). IsSound w.next_sid w.services) (sym e)
    (record {
      few = work_few work now (charts_of services) next s.few;
      names = work_names work now (charts_of services) next s.names;
      order = work_numbers work now (charts_of services) next s.order;
    })

-- a step that was worked out on these services fits a registry that shows them
pub fits_as : (r : RegistryView) (p : PlannedStep) (services : List Supervised) → r.shown.services ≡ services → KeepNames services p.touched
    → length p.added ≤ r.room → IsSoundTable (registry_prepared services p) → Fits r p
fits_as r p services is names room sound = record {
  names = subst (λ (ss : List Supervised). KeepNames ss p.touched) (sym is) names;
  room = room;
  sound = subst (λ (ss : List Supervised). IsSoundTable (registry_prepared ss p)) (sym is) sound;
}

-- a step that is not begun leaves the table
pub blank_idle : {A : Type 0} (services : List Supervised) (next : ℕ) (p : Pending A) → IsBlank next p
    → registry_prepared services (planned_of p) ≡ idle_of (record { services = services; next_sid = next })
blank_idle services next p b = λ i. record {
  services = (nothing_dropped (with_changes services p.moves.touched.items) p.scan.dropped.items p.scan.added.items b.scan.dropped b.scan.added
      ∙ ap (λ ts. with_changes services ts) b.touched) i;
  next_sid = b.next_sid i;
  events = b.events i;
  orders = b.orders i;
  stale = b.stale i;
  dropped = b.scan.dropped_sids i;
  listed = b.scan.listed i;
  timers = b.timers i;
}

pub sound_change : (sid : ℕ) (change : Change) (now next : ℕ) (cs : List ChartState) → IsSound next cs
    → IsSound next (services_after (change_move_at sid change now) cs)
sound_change sid change now next cs s = record {
  few = work_few (change_one sid change) now cs next s.few;
  names = work_names (change_one sid change) now cs next s.names;
  order = work_numbers (change_one sid change) now cs next s.order;
}
