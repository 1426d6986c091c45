-- The moves that reports and timers are made of.
use Rattle.std.specs.Prelude.{ℕ, ◌+◌, [], ◌∷◌, false, ◌==◌, not, nat_le, Option, None, Some, if◌then◌else◌}
use Rattle.s6_events.specs.declared.mark.Mark.TheVariants.{SupervisorStarted, SupervisorEnded}
use Rattle.s6_events.specs.declared.exit.Exit.{Exit}
use Rattle.s6_events.specs.declared.order.Order.TheVariants as order
use Rattle.finish_core.specs.FinishArguments.{finish_arguments}
use Rattle.finish_core.specs.Restart.{restart_moment}
use Rattle.supervise_core.specs.declared.chart_state.ChartState.{ChartState}
use Rattle.supervise_core.specs.declared.phase.Phase.TheVariants.{Down, Starting, Finish, Gone}
use Rattle.supervise_core.specs.ChartState.{Moved, no_move, with_mark, with_order}

-- the next run is ordered
abbrev pub run_move : ChartState → Moved
run_move c =
    with_order (order.Run c.sid (c.generation + 1) c.name c.config.notification_fd)
    (record c {
      generation = c.generation + 1;
      phase = Starting;
      down_pending = false;
      timer = None;
      notification_fd =
          c.config.notification_fd;
    })

-- the supervisor is there, and the service is down
abbrev pub at_beginning : ChartState → ChartState
at_beginning c = record c {
  phase = Down;
  wanted_up = not c.config.down;
  exit_requested = false;
  down_pending =
      false;
  paused = false;
  ready_since = None;
  timer = None;
}

-- the supervisor starts, and with it the first run, unless the directory has a file down
abbrev pub begin_move : ChartState → Moved
begin_move c = with_mark SupervisorStarted
    (if c.config.down then no_move (at_beginning c) else run_move (at_beginning c))

-- a timer that is set is kept; none is set where timeout-kill is 0
abbrev pub kill_timer : ℕ → ℕ → Option ℕ → Option ℕ
kill_timer now timeout (Some due) = Some due
kill_timer now timeout None = if timeout == 0 then None else Some (now + timeout)

-- the run gets its down signal and SIGCONT, and a SIGKILL when the timer goes off, if there is one
abbrev pub down_signal_move : ℕ → ChartState → Moved
down_signal_move now c = record {
  chart = record c { paused = false; timer = kill_timer now c.config.timeout_kill c.timer };
  marks = [];
  orders = order.Signal c.sid c.generation c.config.down_signal ∷ order.Signal c.sid c.generation 18 ∷ [];
  deaths = [];
  stale = false;
}

-- finish is ordered, and a SIGKILL for it later, unless timeout-finish is 0
abbrev pub finish_move : Exit → ℕ → ChartState → Moved
finish_move exit now c =
    with_order (order.Finish c.sid c.generation c.name (finish_arguments exit).0 (finish_arguments exit).1)
    (record c {
      phase = Finish;
      timer =
          if c.config.timeout_finish == 0 then None else Some (now + c.config.timeout_finish);
    })

-- the supervisor ends; where the directory is active another one starts a second later
abbrev pub end_move : ℕ → ChartState → Moved
end_move now c = with_mark SupervisorEnded
    (no_move (record c { phase = Gone; timer = if c.active then Some (now + 1000) else None }))

-- the service is down, with no timer
abbrev pub at_rest : ChartState → ChartState
at_rest c = record c { phase = Down; timer = None; ready_since = None }

-- finish is done: the supervisor ends, or the service rests, or it is started now or later
abbrev pub settle_move : ℕ → ChartState → Moved
settle_move now c =
    if c.exit_requested then end_move now (at_rest c)
    else if not c.wanted_up then no_move (at_rest c)
    else if nat_le (restart_moment c.ready_since c.died_at now) now then run_move (at_rest c)
    else no_move (record (at_rest c) { timer = Some (restart_moment c.ready_since c.died_at now) })
