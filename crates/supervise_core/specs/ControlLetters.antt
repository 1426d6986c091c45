-- The control letters: what each of them does in each phase. Once the supervisor has ended, no letter does anything.
use Rattle.std.specs.Prelude.{ℕ, List, ◌++◌, Bool, true, false, fold, Option, None, Some, if◌then◌else◌}
use Rattle.s6_events.specs.declared.order.Order.TheVariants.{Signal}
use Rattle.control_letters.specs.declared.control_letter.ControlLetter.{ControlLetter}
use Rattle.control_letters.specs.declared.control_letter.ControlLetter.TheVariants as control_letter
use Rattle.control_letters.specs.ControlLetter.{signal_of}
use Rattle.supervise_core.specs.declared.chart_state.ChartState.{ChartState}
use Rattle.supervise_core.specs.declared.phase.Phase.{Phase}
use Rattle.supervise_core.specs.declared.phase.Phase.TheVariants.{Down, Starting, Up}
use Rattle.supervise_core.specs.ChartState.{Moved, no_move, with_order, is_down, is_up, is_gone}
use Rattle.supervise_core.specs.Moves.{run_move, down_signal_move, end_move}

-- u: it is wanted up, unless its supervisor is to end; where it is down it is started
abbrev pub up_move : ChartState → Moved
up_move c =
    if c.exit_requested then no_move c
    else if is_down c.phase then run_move (record c { wanted_up = true })
    else no_move (record c { wanted_up = true })

-- d: where it is up, it gets its down signal; where its start is under way, it gets it once it is up; where it is down, it has no timer
abbrev pub down_move : Phase → ℕ → ChartState → Moved
down_move Down now c = no_move (record c { timer = None })
down_move Starting now c = no_move (record c { down_pending = true })
down_move Up now c = down_signal_move now c
down_move _ now c = no_move c

-- O: where it is down, it has no timer; its run is left alone
abbrev pub once_move : ChartState → Moved
once_move c = no_move (record c { timer = if is_down c.phase then None else c.timer })

-- r: where it is up it gets its down signal
abbrev pub restart_move : ℕ → ChartState → Moved
restart_move now c = if is_up c.phase then down_signal_move now c else no_move c

-- x: its supervisor is to end, and ends at once where it is down
abbrev pub exit_move : ℕ → ChartState → Moved
exit_move now c = if is_down c.phase then end_move now c else no_move c

-- p pauses it, and c lets it go on
abbrev pub is_paused_after : ControlLetter → Bool → Bool
is_paused_after control_letter.Pause paused = true
is_paused_after control_letter.Continue paused = false
is_paused_after _ paused = paused

-- a letter that stands for a signal: where it is up it gets the signal
abbrev pub signal_move : Option ℕ → ControlLetter → ChartState → Moved
signal_move None letter c = no_move c
signal_move (Some number) letter c =
    if is_up c.phase then with_order (Signal c.sid c.generation number)
    (record c { paused = is_paused_after letter c.paused })
    else no_move c

-- it is no longer wanted up
abbrev pub as_unwanted : ChartState → ChartState
as_unwanted c = record c { wanted_up = false }

-- what each letter does while the supervisor is there
abbrev pub letter_rule : ControlLetter → ℕ → ChartState → Moved
letter_rule control_letter.Up now c = up_move c
letter_rule control_letter.Down now c = down_move c.phase now (as_unwanted c)
letter_rule control_letter.Once now c = once_move (as_unwanted c)
letter_rule control_letter.Restart now c = restart_move now c
letter_rule control_letter.Exit now c = exit_move now (record c { exit_requested = true })
letter_rule letter now c = signal_move (signal_of letter) letter c

-- one letter
abbrev pub letter_move : ℕ → ControlLetter → ChartState → Moved
letter_move now letter c = if is_gone c.phase then no_move c else letter_rule letter now c

-- a move after another one, with the marks and orders of both
abbrev pub then_move : (ChartState → Moved) → Moved → Moved
then_move move m = record {
  chart = (move m.chart).chart;
  marks = m.marks ++ (move m.chart).marks;
  orders = m.orders ++ (move m.chart).orders;
  deaths = m.deaths ++ (move m.chart).deaths;
  stale = m.stale;
}

-- the letters of a call, one after the other
abbrev pub control_move : List ControlLetter → ℕ → ChartState → Moved
control_move letters now c = fold (λ m letter. then_move (letter_move now letter) m) (no_move c) letters
