-- What a contract sees of a backend's roll: what it was asked and gave.
use Rattle.std.specs.Prelude.{◌≡◌, ℕ, Bool, true, false, List, [], ◌∷◌, ◌++◌, map, remove, slice_get, Some, IsTrue, if◌then◌else◌}
use Rattle.std.specs.declared.snapshot.Snapshot.{Snapshot}
use Rattle.std.specs.List.{Contains}
use Rattle.s6_events.specs.declared.order.Order.{Order}
use Rattle.s6_events.specs.declared.order.Order.TheVariants as order
use Rattle.s6_events.specs.declared.report.Report.{Report}
use Rattle.s6_events.specs.declared.report.Report.TheVariants as report
use Rattle.order_lanes.specs.Backend.{answers}

-- all orders that were asked, all reports that were given, and the starts that live, oldest first
pub record RollView : Type 0 where
  pub asked : List Order
  pub given : List Report
  pub living : List Order

-- the starts that live once an order was asked
abbrev pub living_after : Order → List Order → List Order
living_after (order.Run sid generation name descriptor) living = living ++ order.Run sid generation name descriptor ∷ []
living_after (order.Finish sid generation name code signal) living = living ++ order.Finish sid generation name code signal ∷ []
living_after (order.Signal sid generation signal) living = living
living_after (order.KillFinish sid generation) living = living

-- the roll once one more order was asked
abbrev pub with_asked : Order → RollView → RollView
with_asked order roll = record roll { asked = roll.asked ++ order ∷ []; living = living_after order roll.living }

-- no report of a start comes after this one
abbrev pub is_last : Report → Bool
is_last (report.Started sid generation pid) = false
is_last (report.StartFailed sid generation) = true
is_last (report.Notify sid generation bytes) = false
is_last (report.Death sid generation exit) = true
is_last (report.FinishEnded sid generation exit) = true

-- the report answers a start that lives, and is given; after its last report a start lives no more
abbrev pub Passes : Report → RollView → RollView → Type 0
Passes report old new = (k : ℕ) × (start : Order) × (slice_get old.living k ≡ Some start) × IsTrue (answers start report)
    × (new ≡ record old { given = old.given ++ report ∷ []; living = if is_last report then remove old.living k else old.living })

-- the orders, or the reports, that these snapshots show
abbrev pub orders_in : List (Snapshot Order) → List Order
orders_in snapshots = map (λ s. s.value) snapshots

abbrev pub reports_in : List (Snapshot Report) → List Report
reports_in snapshots = map (λ s. s.value) snapshots

-- the order is among those that were asked
unfoldable pub WasAsked : List Order → Order → Type 0
WasAsked asked order = Contains asked order
