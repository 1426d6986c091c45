-- How additions go on.
use Rattle.std.specs.Prelude.{◌≡◌, ℕ, List, ◌++◌, bytes_eq}
use Rattle.std.specs.List.{list_any}
use Rattle.supervise_core.specs.declared.chart_state.ChartState.{ChartState}
use Rattle.supervise_core.specs.Service.{Supervised}
use Rattle.svscan_core.specs.declared.moves.Moves.{Moves}
use Rattle.svscan_core.specs.declared.scan.Scanning.{Scanning}
use Rattle.svscan_core.specs.Adding.{Adding, GoesOn}
use Rattle.svscan_core.specs.Scan.{stands}
use Rattle.svscan_core.specs.Sound.{IsNumbered}
use Rattle.svscan_core.specs.Table.{charts_of}

-- additions go on behind any services with which the serials are in order
abbrev pub AdditionsGoOn : Adding → Adding → Type 0
AdditionsGoOn old new = (services : List Supervised) → IsNumbered old.next_sid (charts_of (services ++ old.added))
    → GoesOn services old new

-- services come at the most: no more leave, and no more change
pub record OnlyAdds {A : Type 0} (old new : Scanning A) (before after : Moves A) : Type 0 where
  pub dropped : new.dropped.items ≡ old.dropped.items
  pub dropped_sids : new.dropped_sids.items ≡ old.dropped_sids.items
  pub touched : after.touched.items ≡ before.touched.items

-- the name stands among these services just if it stood before the step
abbrev pub StandsAsBefore : List Supervised → List ChartState → List ℕ → Type 0
StandsAsBefore standing services name = stands name services ≡ list_any (λ s. bytes_eq name s.chart.name) standing
