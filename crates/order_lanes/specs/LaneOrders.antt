-- Which orders are which lane's.
use Rattle.std.specs.Prelude.{ℕ, ◌%◌, ◌==◌, List, filter}
use Rattle.s6_events.specs.declared.order.Order.{Order}
use Rattle.s6_events.specs.declared.order.Order.TheVariants.{Run, Finish, Signal, KillFinish}

-- the serial of the order's service
abbrev pub sid_of : Order → ℕ
sid_of (Run sid generation name fd) = sid
sid_of (Finish sid generation name code signal) = sid
sid_of (Signal sid generation number) = sid
sid_of (KillFinish sid generation) = sid

-- the lane of an order where there are `lanes` of them
abbrev pub lane_of : ℕ → Order → ℕ
lane_of lanes order = sid_of order % lanes

-- the orders of one lane where there are `lanes` of them, in order
abbrev pub orders_of_lane : ℕ → ℕ → List Order → List Order
orders_of_lane lanes lane orders = filter (λ order. lane_of lanes order == lane) orders
