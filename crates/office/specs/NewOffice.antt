-- What a contract sees of an office before it is opened.
use Rattle.std.specs.Prelude.{◌≡◌, ◌≤◌, ◌&&◌, ℕ, Bool, List, slice_get, length, nat_le, Option, Some, None, if◌then◌else◌}
use Rattle.atomic_table.specs.Seated.{TableId}
use Rattle.logbook.specs.Pages.{Book}
use Rattle.inbox.specs.Ends.{RingView}
use Rattle.order_lanes.specs.Lane.{LaneRingView, AreNumbered}
use Rattle.tree_core.specs.StandsFor.{StoredTree}
use Rattle.office.specs.declared.new_office.OpenFault.{OpenFault}
use Rattle.office.specs.declared.new_office.OpenFault.TheVariants.{Actors, Lanes}

-- its tree, its new rings, those of its lanes, its board's history, that of its inputs, and the backends of its lanes
pub record NewOfficeView (B : Type 0) : Type 0 where
  pub tree : StoredTree
  pub rings : List RingView
  pub lane_rings : List LaneRingView
  pub board : Book
  pub history : TableId
  pub backends : List B

-- each ring stands at the place of its actor's number
abbrev pub AreOrdered : List RingView → Type 0
AreOrdered rings = (k : ℕ) (r : RingView) → slice_get rings k ≡ Some r → r.actor ≡ k

-- there are 1 to 16 rings and 1 to 4 lanes, each at the place of its number, and a backend for each lane
pub record IsSoundNew (rings : List RingView) (lane_rings : List LaneRingView) (backends : ℕ) : Type 0 where
  pub some_actor : 1 ≤ length rings
  pub few_actors : length rings ≤ 16
  pub some_lane : 1 ≤ length lane_rings
  pub few_lanes : length lane_rings ≤ 4
  pub ordered : AreOrdered rings
  pub numbered : AreNumbered lane_rings
  pub each : backends ≡ length lane_rings

-- the number is from 1 to `most`
abbrev pub is_within : ℕ → ℕ → Bool
is_within most number = nat_le 1 number && nat_le number most

-- why no office may have so many actors and lanes
abbrev pub refusal : ℕ → ℕ → Option OpenFault
refusal actors lanes = if is_within 16 actors then (if is_within 4 lanes then None else Some Lanes) else Some Actors

-- the fault that there is, or else `other`
abbrev pub fault_or : OpenFault → Option OpenFault → OpenFault
fault_or other None = other
fault_or other (Some fault) = fault
