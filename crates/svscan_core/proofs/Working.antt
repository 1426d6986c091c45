-- What a step leaves and gives, as one record.
use Rattle.std.proofs.Common.{◌≡◌, ◌∙◌, ℕ, List, [], ◌++◌, Bool, ap, append-nil}
use Rattle.deadlines.specs.declared.timer.TimerChange.{TimerChange}
use Rattle.s6_events.specs.declared.order.Order.{Order}
use Rattle.supervise_core.specs.declared.chart_state.ChartState.{ChartState}
use Rattle.supervise_core.specs.ChartState.{Moved}
use Rattle.supervise_core.specs.Service.{Supervised}
use Rattle.svscan_core.specs.declared.entry.Listed.{Listed}
use Rattle.svscan_core.specs.declared.event.Event.{Event}
use Rattle.svscan_core.specs.Moving.{StepSoFar, Takes}
use Rattle.svscan_core.specs.Registry.{RegistryPrepared, result_of}
use Rattle.svscan_core.specs.Scanning.{without_names}
use Rattle.svscan_core.specs.Table.{charts_of}
use Rattle.svscan_core.specs.Work.{with_earlier, move_result}

-- a step that drops and adds nothing has these services
pub nothing_dropped : (ss : List Supervised) (dropped : List (List ℕ)) (added : List Supervised) → dropped ≡ [] → added ≡ []
    → without_names ss dropped ++ added ≡ ss
nothing_dropped ss dropped added d a = (λ i. without_names ss (d i) ++ a i) ∙ append-nil ss

-- what a step has, from its parts
abbrev pub made : List Supervised → ℕ → List Event → List Order → Bool → List ℕ → List Listed → List TimerChange → RegistryPrepared
made services next_sid events orders stale dropped listed timers =
    record {
      services = services;
      next_sid = next_sid;
      events = events;
      orders = orders;
      stale = stale;
      dropped = dropped;
      listed = listed;
      timers =
          timers;
    }

-- every service took a move
pub moves_work : (ss : List Supervised) (next : ℕ) (stale told : Bool) (sids : List ℕ) (listed : List Listed) (timers : List TimerChange) (now : ℕ)
    (move : ChartState → Moved) (old new : StepSoFar)
    → ss ≡ new.services → stale ≡ told → sids ≡ [] → listed ≡ [] → Takes now move old new
    → result_of (made ss next new.events new.orders stale sids listed timers)
    ≡ with_earlier old.events old.orders (record (move_result move (charts_of old.services) next) { stale = told })
moves_work ss next stale told sids listed timers now move old new s t d l takes = λ i. record {
  services = (ap charts_of s ∙ takes.services) i;
  next_sid = next;
  events = takes.events i;
  orders = takes.orders i;
  stale = t i;
  dropped = d i;
  listed = l i;
}
