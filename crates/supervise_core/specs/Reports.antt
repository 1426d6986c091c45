-- The reports: what each of them does in the phase that it belongs to.
use Rattle.std.specs.Prelude.{ℕ, ◌+◌, List, [], ◌∷◌, Bool, false, ◌&&◌, ◌==◌, is_some, is_none, None, Some}
use Rattle.std.specs.Prelude.{if◌then◌else◌}
use Rattle.std.specs.List.{list_any}
use Rattle.s6_events.specs.declared.mark.Mark.TheVariants.{Spawned, Ready, Died, FinishDone, PermanentFailure}
use Rattle.s6_events.specs.declared.exit.Exit.{Exit}
use Rattle.finish_core.specs.declared.exit_verdict.Verdict125.{Verdict125}
use Rattle.finish_core.specs.declared.exit_verdict.Verdict125.TheVariants.{Permanent, Ordinary}
use Rattle.finish_core.specs.ExitVerdict.{verdict_of}
use Rattle.supervise_core.specs.declared.chart_state.ChartState.{ChartState}
use Rattle.supervise_core.specs.declared.phase.Phase.TheVariants.{Down, Up}
use Rattle.supervise_core.specs.ChartState.{Moved, no_move, stale_move, with_mark, is_starting, is_up, is_finishing}
use Rattle.supervise_core.specs.Moves.{down_signal_move, finish_move, end_move, settle_move}

-- the run of this generation was ordered, and nothing is known of it yet
abbrev pub is_awaiting : ℕ → ChartState → Bool
is_awaiting generation c = is_starting c.phase && (c.generation == generation)

-- the run of this generation is there
abbrev pub is_running : ℕ → ChartState → Bool
is_running generation c = is_up c.phase && (c.generation == generation)

-- the finish of this generation is there
abbrev pub is_in_finish : ℕ → ChartState → Bool
is_in_finish generation c = is_finishing c.phase && (c.generation == generation)

-- the run is there
abbrev pub with_run : ℕ → ChartState → ChartState
with_run pid c = record c { phase = Up; pid = pid; paused = false; ready_since = None }

-- started, in Starting: u, and the down signal where it was told to go down meanwhile
abbrev pub started_move : ℕ → ℕ → ℕ → ChartState → Moved
started_move generation pid now c =
    if is_awaiting generation c then
    with_mark Spawned (if c.down_pending then down_signal_move now (record (with_run pid c) { down_pending = false })
    else no_move (with_run pid c))
    else stale_move c

-- the run could not be spawned: the supervisor ends where it was told to; else another spawn is tried after a minute, if it is wanted up
abbrev pub failed_spawn_move : ℕ → ChartState → Moved
failed_spawn_move now c =
    if c.exit_requested then end_move now (record c { phase = Down; down_pending = false })
    else no_move (record c {
      phase = Down;
      down_pending = false;
      timer =
          if c.wanted_up then Some (now + 60000) else c.timer;
    })

-- start failed: of the run, in Starting, or of finish, in Finish, which then counts as done
abbrev pub start_failed_move : ℕ → ℕ → ChartState → Moved
start_failed_move generation now c =
    if is_awaiting generation c then failed_spawn_move now c
    else if is_in_finish generation c then with_mark FinishDone (settle_move now c)
    else stale_move c

-- the first newline on the descriptor of the run says that it is ready
abbrev pub says_ready : List ℕ → ChartState → Bool
says_ready bytes c = is_some c.notification_fd && is_none c.ready_since && list_any (λ byte. byte == 10) bytes

-- notify, in Up: U where the bytes say that it is ready, and else nothing
abbrev pub notify_move : ℕ → List ℕ → ℕ → ChartState → Moved
notify_move generation bytes now c =
    if is_running generation c then
    (if says_ready bytes c then with_mark Ready (no_move (record c { ready_since = Some now })) else no_move c)
    else stale_move c

-- the state once the run died with this exit
abbrev pub with_last_exit : Exit → ℕ → ChartState → ChartState
with_last_exit exit now c = record c { died_at = now; last_exit = Some exit; paused = false; timer = None }

-- the move, and a death joins the tally
abbrev pub with_reported_death : ℕ → Exit → Moved → Moved
with_reported_death now exit m = record m { deaths = (now, exit) ∷ [] }

-- death, in Up: d, and the death joins the tally; then finish, or D and what comes next
abbrev pub death_move : ℕ → Exit → ℕ → ChartState → Moved
death_move generation exit now c =
    if is_running generation c then
    with_reported_death now exit (with_mark Died
    (if c.config.finish then finish_move exit now (with_last_exit exit now c)
    else with_mark FinishDone (settle_move now (with_last_exit exit now c))))
    else stale_move c

-- finish is done: after a permanent failure O, and not wanted up any more; then D and what comes next
abbrev pub finish_done_move : Verdict125 → ℕ → ChartState → Moved
finish_done_move Permanent now c = with_mark PermanentFailure
    (with_mark FinishDone (settle_move now (record c { wanted_up = false })))
finish_done_move Ordinary now c = with_mark FinishDone (settle_move now c)

-- finish ended, in Finish
abbrev pub finish_ended_move : ℕ → Exit → ℕ → ChartState → Moved
finish_ended_move generation exit now c =
    if is_in_finish generation c then finish_done_move (verdict_of exit) now c else stale_move c
