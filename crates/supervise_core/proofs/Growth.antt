-- A move orders at most one run.
use Rattle.std.proofs.Common.{ℕ, ◌+◌, ◌≤◌, List, Bool, true, false, cond, arith, not, rules}
use Rattle.std.specs.Prelude.{nat_le}
use Rattle.finish_core.specs.Restart.{restart_moment}
use Rattle.supervise_core.specs.declared.change.Change.{Change}
use Rattle.s6_events.specs.declared.report.Report.TheVariants.{Started, StartFailed, Notify, Death, FinishEnded}
use Rattle.supervise_core.specs.declared.change.Change.TheVariants.{Report, Control, Fire, SetConfig, SetActive}
use Rattle.supervise_core.specs.declared.chart_state.ChartState.{ChartState}
use Rattle.supervise_core.specs.declared.phase.Phase.{Phase}
use Rattle.supervise_core.specs.declared.phase.Phase.TheVariants.{Down, Starting, Up, Finish, Gone}
use Rattle.supervise_core.specs.ChartState.{Moved, no_move}
use Rattle.supervise_core.specs.Moves.{begin_move, settle_move}
use Rattle.supervise_core.specs.Reports.{with_last_exit, is_awaiting, is_running, is_in_finish, says_ready, finish_done_move}
use Rattle.supervise_core.specs.Chart.{timer_rule, fire_move, is_due, control_move, with_activity, changed_by}
use Rattle.supervise_core.specs.LetterBounds.{runs_left}
use Rattle.supervise_core.proofs.LetterGrowth.{spends_control}
use Rattle.control_letters.specs.declared.control_letter.ControlLetter.{ControlLetter}
use Rattle.finish_core.specs.declared.exit_verdict.Verdict125.{Verdict125}
use Rattle.finish_core.specs.declared.exit_verdict.Verdict125.TheVariants.{Permanent, Ordinary}
use Rattle.finish_core.specs.ExitVerdict.{verdict_of}

-- a move leaves the generation, or the next one
abbrev pub Grows : ChartState → Moved → Type 0
Grows c moved = moved.chart.generation ≤ c.generation + 1

-- of two moves that grow, the one that a test picks
pub grows_either : (b : Bool) (c : ChartState) (x y : Moved) → Grows c x → Grows c y → Grows c (cond b x y)
grows_either true c x y gx gy = gx
grows_either false c x y gx gy = gy

grows_begin : (c : ChartState) → Grows c (begin_move c)
grows_begin c = grows_either c.config.down c _ _ (omega arith) (omega arith)

grows_settle : (now : ℕ) (c : ChartState) → Grows c (settle_move now c)
grows_settle now c =
    grows_either c.exit_requested c _ _ (omega arith)
    (grows_either (not c.wanted_up) c _ _ (omega arith)
    (grows_either (nat_le (restart_moment c.ready_since c.died_at now) now) c _ _ (omega arith) (omega arith)))

grows_timer : (p : Phase) (c : ChartState) → Grows c (timer_rule p c)
grows_timer Down c = omega arith
grows_timer Starting c = omega arith
grows_timer Up c = omega arith
grows_timer Finish c = omega arith
grows_timer Gone c = grows_begin c

grows_finish : (v : Verdict125) (now : ℕ) (c : ChartState) → Grows c (finish_done_move v now c)
grows_finish Permanent now c = grows_settle now (record c { wanted_up = false })
grows_finish Ordinary now c = grows_settle now c

grows_listed : (active : Bool) (now : ℕ) (c : ChartState) → Grows c (no_move (with_activity active now c))
grows_listed active now c = search rules

pub grows_fire : (now : ℕ) (c : ChartState) → Grows c (fire_move now c)
grows_fire now c = grows_either (is_due now c.timer) c _ _ (grows_timer c.phase c) (omega arith)

one_run_left : (p : Phase) → runs_left p ≤ 1
one_run_left p = search rules

grows_control : (letters : List ControlLetter) (now : ℕ) (c : ChartState) → Grows c (control_move letters now c)
grows_control letters now c = omega (arith, spends_control letters now c, one_run_left c.phase)

pub grows_changed : (change : Change) (now : ℕ) (c : ChartState) → Grows c (changed_by change now c)
grows_changed (Report (Started _ generation pid)) now c =
    grows_either (is_awaiting generation c) c _ _ (grows_either c.down_pending c _ _ (omega arith) (omega arith)) (omega arith)
grows_changed (Report (StartFailed _ generation)) now c =
    grows_either (is_awaiting generation c) c _ _ (grows_either c.exit_requested c _ _ (omega arith) (omega arith))
    (grows_either (is_in_finish generation c) c _ _ (grows_settle now c) (omega arith))
grows_changed (Report (Notify _ generation bytes)) now c =
    grows_either (is_running generation c) c _ _ (grows_either (says_ready bytes.items c) c _ _ (omega arith) (omega arith)) (omega arith)
grows_changed (Report (Death _ generation exit)) now c =
    grows_either (is_running generation c) c _ _
    (grows_either c.config.finish c _ _ (omega arith) (grows_settle now (with_last_exit exit now c))) (omega arith)
grows_changed (Report (FinishEnded _ generation exit)) now c =
    grows_either (is_in_finish generation c) c _ _ (grows_finish (verdict_of exit) now c) (omega arith)
grows_changed (Control letters) now c = grows_control letters.items now c
grows_changed Fire now c = grows_fire now c
grows_changed (SetConfig config) now c = omega arith
grows_changed (SetActive active) now c = grows_listed active now c
