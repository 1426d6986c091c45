-- How a run ends.
use Rattle.std.specs.Prelude.{◌≡◌, ◌⊎◌, ⊤, ℕ, ◌==◌, ◌<◌, List, [], ◌++◌, count_by, length, map, slice_get, IsSome, Option, Some, None}
use Rattle.s6_events.specs.declared.order.Order.{Order}
use Rattle.inbox.specs.Ends.{DrainView, FinishedView}
use Rattle.order_lanes.specs.Desk.{DeskView}
use Rattle.order_lanes.specs.Lane.{LaneView}
use Rattle.order_lanes.specs.LaneOrders.{orders_of_lane}
use Rattle.run_records.specs.Runs.{RunStep}
use Rattle.tree_core.specs.StandsFor.{StoredTree}
use Rattle.locked_services.specs.Chain.{IsLegalRun}
use Rattle.locked_services.specs.Running.{RunningView, orders_of}
use Rattle.locked_services.specs.Shots.{RoomView}
use Rattle.locked_services.specs.Submissions.{submissions_of, taken_from}
use Rattle.locked_services.specs.declared.closing.CloseFault.{CloseFault}
use Rattle.locked_services.specs.declared.closing.CloseFault.TheVariants.{Missing, Left}
use Rattle.locked_services.specs.declared.closing.Closed.{Closed}

-- how many of the finishes are those of this actor's seat
abbrev pub finishes_of : ℕ → List FinishedView → ℕ
finishes_of actor finishes = count_by (λ f. f.actor == actor) finishes

-- each finish is of a seat with a number below `seats`
abbrev pub AreKnown : ℕ → List FinishedView → Type 0
AreKnown seats finishes = (k : ℕ) (f : FinishedView) → slice_get finishes k ≡ Some f → f.actor < seats

-- for each finish the ring told what the seat had submitted
abbrev pub AreTold : List FinishedView → Type 0
AreTold finishes = (k : ℕ) (f : FinishedView) → slice_get finishes k ≡ Some f → IsSome f.submitted

-- there is just one finish for each of so many seats, and no other, and for each the ring told what the seat had submitted
pub record AreComplete (seats : ℕ) (finishes : List FinishedView) : Type 0 where
  pub known : AreKnown seats finishes
  pub one : (actor : ℕ) → actor < seats → finishes_of actor finishes ≡ 1
  pub told : AreTold finishes

-- all that these seats submitted was taken
abbrev pub AreTaken : List DrainView → List FinishedView → Type 0
AreTaken drains finishes = (k : ℕ) (f : FinishedView) → slice_get finishes k ≡ Some f → f.submitted ≡ Some (taken_from f.actor drains)

-- an input of one of these seats is still in its ring, or the ring didn't tell what the seat had submitted
abbrev pub IsInputLeft : List DrainView → List FinishedView → Type 0
IsInputLeft drains finishes =
    (k : ℕ) × (f : FinishedView) × (slice_get finishes k ≡ Some f) × (f.submitted ≡ Some (taken_from f.actor drains) → ⊥)

-- the lane and the desk at a place belong together, and the desk's backend was asked all that was ever sent into the lane
abbrev pub IsServed : (ℕ → List Order) → ℕ → Option LaneView → Option DeskView → Type 0
IsServed before k None None = ⊤
IsServed before k None (Some desk) = ⊥
IsServed before k (Some lane) None = ⊥
IsServed before k (Some lane) (Some desk) = (lane.number ≡ k) × (desk.lane ≡ k) × (desk.asked ≡ before k ++ lane.sent)

-- at each place this is so
abbrev pub AreServed : (ℕ → List Order) → List LaneView → List DeskView → Type 0
AreServed before lanes desks = (k : ℕ) → IsServed before k (slice_get lanes k) (slice_get desks k)

-- at some place it isn't so: an order is still in the lane's ring or held at its desk, or the lane and the desk there don't belong together
abbrev pub IsOrderLeft : (ℕ → List Order) → List LaneView → List DeskView → Type 0
IsOrderLeft before lanes desks = (k : ℕ) × (IsServed before k (slice_get lanes k) (slice_get desks k) → ⊥)

-- what is still to be done: an input that is held, one in a ring, or an order
abbrev pub IsLeft : (ℕ → List Order) → RunningView → List DeskView → List FinishedView → Type 0
IsLeft before v desks finishes = IsSome v.held ⊎ IsInputLeft v.drains finishes ⊎ IsOrderLeft before v.lanes desks

-- each of these seats submitted just what its actor's steps took
abbrev pub AreDone : List RunStep → List FinishedView → Type 0
AreDone steps finishes = (k : ℕ) (f : FinishedView) → slice_get finishes k ≡ Some f → f.submitted ≡ Some (submissions_of f.actor steps)

-- the backend of each of so many lanes was asked just the lane's orders, after what it was asked before the run
abbrev pub AreCarriedOut : {B : Type 0} → (B → List Order) → (ℕ → List Order) → ℕ → List RunStep → List B → Type 0
AreCarriedOut {B} asked before lanes steps backends =
    (k : ℕ) (b : B) → slice_get backends k ≡ Some b → asked b ≡ before k ++ orders_of_lane lanes k (orders_of steps)

-- a run was closed with these finishes: there is just one for each seat, all that was submitted was done, all orders of the steps were
-- asked, the steps are a legal history, and the tree stands for its end
pub record IsClosed {B : Type 0} (asked : B → List Order) (before : ℕ → List Order) (v : RunningView) (finishes : List FinishedView)
    (closed : Closed B) : Type 0 where
  pub complete : AreComplete (length v.drains) finishes
  pub done : AreDone v.steps finishes
  pub lanes : length closed.backends.items ≡ length v.lanes
  pub carried_out : AreCarriedOut asked before (length v.lanes) v.steps closed.backends.items
  pub tree : closed.tree.value ≡ v.tree
  pub steps : closed.steps ≡ length v.steps
  pub run : closed.run.steps ≡ v.steps
  pub legal : IsLegalRun (record { opening = v.opening; steps = v.steps; tree = closed.tree.value })

-- what was closed is a run from this tree: its steps are a legal history, and the tree that is left stands for its end
abbrev pub IsRunFrom : {B : Type 0} → StoredTree → Closed B → Type 0
IsRunFrom tree closed = (closed.steps ≡ length closed.run.steps)
    × IsLegalRun (record { opening = tree; steps = closed.run.steps; tree = closed.tree.value })

-- why a run isn't closed. Missing: the finishes aren't complete. Left: they are, and something is still to be done
pub record IsFault (before : ℕ → List Order) (v : RunningView) (desks : List DeskView) (finishes : List FinishedView)
    (fault : CloseFault) : Type 0 where
  pub missing : fault ≡ Missing → AreComplete (length v.drains) finishes → ⊥
  pub left : fault ≡ Left → AreComplete (length v.drains) finishes × IsLeft before v desks finishes

-- the ends of rings, without what is seen of the rings
abbrev pub drain_unseen : DrainView → DrainView
drain_unseen d = record d { seen = [] }

abbrev pub lane_unseen : LaneView → LaneView
lane_unseen l = record l { free = 0 }

abbrev pub desk_unseen : DeskView → DeskView
desk_unseen d = record d { seen = [] }

-- the same ends, but for what is seen of their rings
abbrev pub AreSameDrains : List DrainView → List DrainView → Type 0
AreSameDrains old new = map drain_unseen new ≡ map drain_unseen old

abbrev pub AreSameLanes : List LaneView → List LaneView → Type 0
AreSameLanes old new = map lane_unseen new ≡ map lane_unseen old

abbrev pub AreSameDesks : List DeskView → List DeskView → Type 0
AreSameDesks old new = map desk_unseen new ≡ map desk_unseen old

-- the same run, but for what is seen of its rings
pub record IsSameRunning (old new : RunningView) : Type 0 where
  pub opening : new.opening ≡ old.opening
  pub tree : new.tree ≡ old.tree
  pub steps : new.steps ≡ old.steps
  pub drains : AreSameDrains old.drains new.drains
  pub held : new.held ≡ old.held
  pub lanes : AreSameLanes old.lanes new.lanes

pub record IsSameRoom (old new : RoomView) : Type 0 where
  pub running : IsSameRunning old.running new.running
  pub shots : new.shots ≡ old.shots
  pub is_shown : new.is_shown ≡ old.is_shown
