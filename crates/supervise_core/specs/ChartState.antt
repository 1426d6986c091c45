-- The state of a service without its tally, and what a move makes of it.
use Rattle.std.specs.Prelude.{ℕ, List, [], ◌∷◌, Bool, true, false, None}
use Rattle.s6_events.specs.declared.mark.Mark.{Mark}
use Rattle.s6_events.specs.declared.exit.Exit.{Exit}
use Rattle.s6_events.specs.declared.order.Order.{Order}
use Rattle.servicedir.specs.declared.config.Config.{Config}
use Rattle.supervise_core.specs.declared.chart_state.ChartState.{ChartState}
use Rattle.supervise_core.specs.declared.phase.Phase.{Phase}
use Rattle.supervise_core.specs.declared.phase.Phase.TheVariants.{Down, Starting, Up, Finish, Gone}

-- an active service whose supervisor has not started yet
abbrev pub new_service : ℕ → List ℕ → Config → ChartState
new_service sid name config = record {
  sid = sid;
  name = name;
  config = config;
  phase = Gone;
  wanted_up = false;
  exit_requested = false;
  down_pending = false;
  ready_since = None;
  paused = false;
  generation = 0;
  pid = 0;
  notification_fd = None;
  died_at = 0;
  last_exit = None;
  active = true;
  timer = None;
}

-- what a move leaves and gives: the state, the marks, the orders, the deaths that join the tally, and whether it was stale
pub record Moved : Type 0 where
  pub chart : ChartState
  pub marks : List Mark
  pub orders : List Order
  pub deaths : List (ℕ × Exit)
  pub stale : Bool

-- a move that leaves this state and gives nothing
abbrev pub no_move : ChartState → Moved
no_move c = record { chart = c; marks = []; orders = []; deaths = []; stale = false }

-- a stale report changes nothing
abbrev pub stale_move : ChartState → Moved
stale_move c = record { chart = c; marks = []; orders = []; deaths = []; stale = true }

-- a mark, and then the move
abbrev pub with_mark : Mark → Moved → Moved
with_mark mark m = record m { marks = mark ∷ m.marks }

-- a state with an order
abbrev pub with_order : Order → ChartState → Moved
with_order order c = record { chart = c; marks = []; orders = order ∷ []; deaths = []; stale = false }

-- which phase it is
abbrev pub is_down : Phase → Bool
is_down Down = true
is_down _ = false

abbrev pub is_starting : Phase → Bool
is_starting Starting = true
is_starting _ = false

abbrev pub is_up : Phase → Bool
is_up Up = true
is_up _ = false

abbrev pub is_finishing : Phase → Bool
is_finishing Finish = true
is_finishing _ = false

abbrev pub is_gone : Phase → Bool
is_gone Gone = true
is_gone _ = false
