-- What is true of a running tree whenever its lock is free.
use Rattle.std.specs.Prelude.{◌≡◌, ℕ, ◌≤◌, ◌<◌, List, ◌++◌, flat_map, length, Option}
use Rattle.std.specs.declared.alloc.Global.{Global}
use Rattle.s6_events.specs.declared.order.Order.{Order}
use Rattle.inbox.specs.Ends.{DrainView}
use Rattle.order_lanes.specs.Lane.{LaneView, sent_in}
use Rattle.order_lanes.specs.LaneOrders.{orders_of_lane}
use Rattle.tree_core.specs.declared.input.Input.{Input}
use Rattle.tree_core.specs.Machine.{Machine}
use Rattle.tree_core.specs.StandsFor.{StoredTree, StandsFor}
use Rattle.run_records.specs.Runs.{RunStep, IsLegal, end_of}
use Rattle.locked_services.specs.Submissions.{AreNumbered, held_by, submissions_of, taken_from}

-- the most steps of a run
abbrev pub run_limit : ℕ
run_limit = 262144

-- what the tree stored when the run began, and now; the steps since then; the ends of the rings; an input that was taken and isn't
-- done; and the lanes
pub record RunningView : Type 0 where
  pub opening : StoredTree
  pub tree : StoredTree
  pub steps : List RunStep
  pub drains : List DrainView
  pub held : Option (Input Global)
  pub lanes : List LaneView

-- all orders of these steps, in order
abbrev pub orders_of : List RunStep → List Order
orders_of steps = flat_map (λ s. s.outcome.orders) steps

-- there is a machine for which the tree stood when the run began; there are no more steps than a run may have; they are a legal history
-- from each such machine, and the tree stands for its end; each actor's steps, and then the held input, where it is the actor's, are what
-- its ring gave; and each lane was sent its orders
pub record IsSoundRunning (v : RunningView) : Type 0 where
  pub begins : (m : Machine) × StandsFor v.opening m
  pub within : length v.steps ≤ run_limit
  pub legal : (m : Machine) → StandsFor v.opening m → IsLegal m v.steps
  pub stands : (m : Machine) → StandsFor v.opening m → StandsFor v.tree (end_of m v.steps)
  pub numbered : AreNumbered v.drains
  pub submitted : (actor : ℕ) → submissions_of actor v.steps ++ held_by actor v.held ≡ taken_from actor v.drains
  pub has_lanes : 0 < length v.lanes
  pub sent : (k : ℕ) → k < length v.lanes → sent_in k v.lanes ≡ orders_of_lane (length v.lanes) k (orders_of v.steps)
