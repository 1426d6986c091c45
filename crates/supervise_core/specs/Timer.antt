-- The timer of a service: what it does in each phase, once its moment has come.
use Rattle.std.specs.Prelude.{ℕ, Bool, false, nat_le, Option, None, Some, if◌then◌else◌}
use Rattle.s6_events.specs.declared.order.Order.TheVariants.{Signal, KillFinish}
use Rattle.supervise_core.specs.declared.chart_state.ChartState.{ChartState}
use Rattle.supervise_core.specs.declared.phase.Phase.{Phase}
use Rattle.supervise_core.specs.declared.phase.Phase.TheVariants.{Down, Starting, Up, Finish, Gone}
use Rattle.supervise_core.specs.ChartState.{Moved, no_move, with_order}
use Rattle.supervise_core.specs.Moves.{run_move, begin_move}

-- the moment of a timer has come
abbrev pub is_due : ℕ → Option ℕ → Bool
is_due now None = false
is_due now (Some due) = nat_le due now

-- in Down a start, in Up and Finish a SIGKILL, in Gone a new supervisor
abbrev pub timer_rule : Phase → ChartState → Moved
timer_rule Down c = run_move c
timer_rule Starting c = no_move c
timer_rule Up c = with_order (Signal c.sid c.generation 9) (record c { timer = None })
timer_rule Finish c = with_order (KillFinish c.sid c.generation) (record c { timer = None })
timer_rule Gone c = begin_move c

-- a service whose timer is due takes the timer's rule, and any other one stays as it is
abbrev pub fire_move : ℕ → ChartState → Moved
fire_move now c = if is_due now c.timer then timer_rule c.phase c else no_move c
