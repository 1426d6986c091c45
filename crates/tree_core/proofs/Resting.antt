-- A service that failed for good rests: no move starts it but a letter u, and none begins its supervisor but an s.
use Rattle.std.proofs.Common.{◌≡◌, refl, ◌∙◌, ℕ, List, [], ◌∷◌, Bool, true, false, cond, fold, rules}
use Rattle.std.specs.Prelude.{Option, Some, None}
use Rattle.std.specs.List.{list_any}
use Rattle.std.proofs.lemmas.List.Folds.{list_any-append}
use Rattle.finish_core.specs.declared.exit_verdict.Verdict125.{Verdict125}
use Rattle.finish_core.specs.declared.exit_verdict.Verdict125.TheVariants.{Permanent, Ordinary}
use Rattle.finish_core.specs.ExitVerdict.{verdict_of}
use Rattle.s6_events.specs.declared.exit.Exit.{Exit}
use Rattle.servicedir.specs.declared.config.Config.{Config}
use Rattle.control_letters.specs.declared.control_letter.ControlLetter.{ControlLetter}
use Rattle.supervise_core.specs.declared.change.Change.{Change}
use Rattle.s6_events.specs.declared.report.Report.TheVariants.{Started, StartFailed, Notify, Death, FinishEnded}
use Rattle.supervise_core.specs.declared.change.Change.TheVariants.{Report, Control, Fire, SetConfig, SetActive}
use Rattle.supervise_core.specs.declared.chart_state.ChartState.{ChartState}
use Rattle.supervise_core.specs.declared.phase.Phase.{Phase}
use Rattle.supervise_core.specs.declared.phase.Phase.TheVariants.{Down, Gone}
use Rattle.supervise_core.specs.ChartState.{Moved, no_move, stale_move, is_finishing}
use Rattle.supervise_core.specs.ControlLetters.{then_move}
use Rattle.supervise_core.specs.Moves.{settle_move}
use Rattle.supervise_core.specs.Reports.{is_in_finish, finish_done_move}
use Rattle.supervise_core.specs.Chart.{started_move, start_failed_move, notify_move, death_move, finish_ended_move, control_move, letter_move}
use Rattle.supervise_core.specs.Chart.{fire_move, changed_by, with_activity}
use Rattle.svscan_core.specs.declared.entry.Entry.{Entry}
use Rattle.svscan_core.specs.declared.entry.ScanOrder.{ScanOrder}
use Rattle.svscan_core.specs.declared.entry.ScanOrder.TheVariants.{Nuke, Terminate}
use Rattle.svscan_core.specs.Listing.{has_entry, listed_config}
use Rattle.svscan_core.specs.Scan.{with_read_config, after_look}
use Rattle.svscan_core.specs.Work.{command_move, leave_letters}
use Rattle.svscan_core.proofs.Truth.{both_left, neither_of, neither_left, neither_right}
use Rattle.tree_core.specs.Closing.{is_run}
use Rattle.tree_core.specs.Permanent.{is_failure_mark, tells_start, is_up_letter, wants_up}
use Rattle.tree_core.proofs.OwnWork.{Did, move_of, told_of}
use Rattle.tree_core.proofs.OwnWork.Did.{takes, obeys, looks}

-- down with no timer, or its supervisor has ended
abbrev pub IsResting : Phase → Option ℕ → Type 0
IsResting Down timer = timer ≡ None
IsResting Gone timer = Unit
IsResting phase timer = ⊥

-- after the move the service rests, and the move starts no run
pub record Rests (m : Moved) : Type 0 where
  pub chart : IsResting m.chart.phase m.chart.timer
  pub orders : list_any is_run m.orders ≡ false

abbrev TellsNoStart : Moved → Type 0
TellsNoStart m = list_any tells_start m.marks ≡ false

abbrev TellsNoFailure : Moved → Type 0
TellsNoFailure m = list_any is_failure_mark m.marks ≡ false

pub fire_rests : (now : ℕ) (c : ChartState) → IsResting c.phase c.timer → TellsNoStart (fire_move now c) → Rests (fire_move now c)
fire_rests now c h k = search (h, k, rules)

started_rests : (generation pid now : ℕ) (c : ChartState) → IsResting c.phase c.timer → Rests (started_move generation pid now c)
started_rests generation pid now c h = search (h, rules)

start_failed_rests : (generation now : ℕ) (c : ChartState) → IsResting c.phase c.timer → Rests (start_failed_move generation now c)
start_failed_rests generation now c h = search (h, rules)

notified_rests : (generation : ℕ) (bytes : List ℕ) (now : ℕ) (c : ChartState) → IsResting c.phase c.timer
    → Rests (notify_move generation bytes now c)
notified_rests generation bytes now c h = search (h, rules)

death_rests : (generation : ℕ) (exit : Exit) (now : ℕ) (c : ChartState) → IsResting c.phase c.timer → Rests (death_move generation exit now c)
death_rests generation exit now c h = search (h, rules)

finish_ended_rests : (generation : ℕ) (exit : Exit) (now : ℕ) (c : ChartState) → IsResting c.phase c.timer
    → Rests (finish_ended_move generation exit now c)
finish_ended_rests generation exit now c h = search (h, rules)

letter_rests : (now : ℕ) (letter : ControlLetter) (c : ChartState) → is_up_letter letter ≡ false → IsResting c.phase c.timer
    → Rests (letter_move now letter c)
letter_rests now letter c k h = search (h, k, rules)

active_rests : (active : Bool) (now : ℕ) (c : ChartState) → IsResting c.phase c.timer → Rests (no_move (with_activity active now c))
active_rests active now c h = search (h, rules)

still_rests : (c : ChartState) → IsResting c.phase c.timer → Rests (no_move c)
still_rests c h = record { chart = h; orders = refl }

followed_rests : (now : ℕ) (letter : ControlLetter) (m : Moved) → is_up_letter letter ≡ false → Rests m
    → Rests (then_move (letter_move now letter) m)
followed_rests now letter m k h =
    let one = letter_rests now letter m.chart k h.chart in
    record {
      chart = one.chart;
      orders = list_any-append is_run m.orders (letter_move now letter m.chart).orders
          ∙ neither_of (list_any is_run m.orders) _ h.orders one.orders;
    }

letters_rest : (now : ℕ) (letters : List ControlLetter) (m : Moved) → list_any is_up_letter letters ≡ false → Rests m
    → Rests (fold (λ so_far letter. then_move (letter_move now letter) so_far) m letters)
letters_rest now [] m k h = h
letters_rest now (letter ∷ letters) m k h =
    letters_rest now letters (then_move (letter_move now letter) m) (neither_right (is_up_letter letter) _ k)
    (followed_rests now letter m (neither_left (is_up_letter letter) _ k) h)

control_rests : (letters : List ControlLetter) (now : ℕ) (c : ChartState) → list_any is_up_letter letters ≡ false → IsResting c.phase c.timer
    → Rests (control_move letters now c)
control_rests letters now c k h = letters_rest now letters (no_move c) k (still_rests c h)

changed_rests : (change : Change) (now : ℕ) (c : ChartState) → wants_up (Some change) ≡ false → TellsNoStart (changed_by change now c)
    → IsResting c.phase c.timer → Rests (changed_by change now c)
changed_rests (Report (Started _ generation pid)) now c k s h = started_rests generation pid now c h
changed_rests (Report (StartFailed _ generation)) now c k s h = start_failed_rests generation now c h
changed_rests (Report (Notify _ generation bytes)) now c k s h = notified_rests generation bytes.items now c h
changed_rests (Report (Death _ generation exit)) now c k s h = death_rests generation exit now c h
changed_rests (Report (FinishEnded _ generation exit)) now c k s h = finish_ended_rests generation exit now c h
changed_rests (Control letters) now c k s h = control_rests letters.items now c k h
changed_rests Fire now c k s h = fire_rests now c h s
changed_rests (SetConfig config) now c k s h = record { chart = h; orders = refl }
changed_rests (SetActive active) now c k s h = active_rests active now c h

commanded_rests : (order : ScanOrder) (now : ℕ) (c : ChartState) → IsResting c.phase c.timer → Rests (command_move order now c)
commanded_rests Nuke now c h = by c.active
  where
    by : (b : Bool) → Rests (cond b (no_move c) (control_move leave_letters now c))
    by true = still_rests c h
    by false = control_rests leave_letters now c refl h
commanded_rests Terminate now c h = control_rests leave_letters now (with_activity false now c) refl (active_rests false now c h).chart

looked_rests : (listing : List Entry) (now : ℕ) (c : ChartState) → IsResting c.phase c.timer → Rests (no_move (after_look listing now c))
looked_rests listing now c h = by (listed_config listing c.name) (active_rests (has_entry listing c.name) now c h)
  where
    by : (found : Option Config) → Rests (no_move (with_activity (has_entry listing c.name) now c))
        → Rests (no_move (with_read_config found (with_activity (has_entry listing c.name) now c)))
    by None away = away
    by (Some config) away = record { chart = away.chart; orders = refl }

pub did_rests : (did : Did) (now : ℕ) (c : ChartState) → wants_up (told_of did) ≡ false → TellsNoStart (move_of did now c)
    → IsResting c.phase c.timer → Rests (move_of did now c)
did_rests (takes None) now c k s h = still_rests c h
did_rests (takes (Some change)) now c k s h = changed_rests change now c k s h
did_rests (obeys order) now c k s h = commanded_rests order now c h
did_rests (looks listing) now c k s h = looked_rests listing now c h

-- which moves tell a failure: the end of finish alone, and then the service rests
pub record Fails (c : ChartState) (m : Moved) : Type 0 where
  pub rests : Rests m
  pub finishing : is_finishing c.phase ≡ true

pub fire_tells_none : (now : ℕ) (c : ChartState) → TellsNoFailure (fire_move now c)
fire_tells_none now c = search rules

-- a timer that leaves a service in its finish started no run
pub fire_finishing : (now : ℕ) (c : ChartState) → is_finishing (fire_move now c).chart.phase ≡ true
    → list_any is_run (fire_move now c).orders ≡ false
fire_finishing now c h = search (h, rules)

started_tells_none : (generation pid now : ℕ) (c : ChartState) → TellsNoFailure (started_move generation pid now c)
started_tells_none generation pid now c = search rules

start_failed_tells_none : (generation now : ℕ) (c : ChartState) → TellsNoFailure (start_failed_move generation now c)
start_failed_tells_none generation now c = search rules

notified_tells_none : (generation : ℕ) (bytes : List ℕ) (now : ℕ) (c : ChartState) → TellsNoFailure (notify_move generation bytes now c)
notified_tells_none generation bytes now c = search rules

death_tells_none : (generation : ℕ) (exit : Exit) (now : ℕ) (c : ChartState) → TellsNoFailure (death_move generation exit now c)
death_tells_none generation exit now c = search rules

letter_tells_none : (now : ℕ) (letter : ControlLetter) (c : ChartState) → TellsNoFailure (letter_move now letter c)
letter_tells_none now letter c = search rules

letters_tell_none : (now : ℕ) (letters : List ControlLetter) (m : Moved) → TellsNoFailure m
    → TellsNoFailure (fold (λ so_far letter. then_move (letter_move now letter) so_far) m letters)
letters_tell_none now [] m h = h
letters_tell_none now (letter ∷ letters) m h =
    letters_tell_none now letters (then_move (letter_move now letter) m)
    (list_any-append is_failure_mark m.marks (letter_move now letter m.chart).marks
    ∙ neither_of (list_any is_failure_mark m.marks) _ h (letter_tells_none now letter m.chart))

settle_tells_none : (now : ℕ) (c : ChartState) → TellsNoFailure (settle_move now c)
settle_tells_none now c = search rules

settle_rests : (now : ℕ) (c : ChartState) → c.wanted_up ≡ false → Rests (settle_move now c)
settle_rests now c h = search (h, rules)

none_fails : (c : ChartState) (m : Moved) → TellsNoFailure m → list_any is_failure_mark m.marks ≡ true → Fails c m
none_fails c m h k = cc

finish_done_rests : (v : Verdict125) (now : ℕ) (c : ChartState) → list_any is_failure_mark (finish_done_move v now c).marks ≡ true
    → Rests (finish_done_move v now c)
finish_done_rests Permanent now c k = let rest =
    settle_rests now (record c { wanted_up = false }) refl in record { chart = rest.chart; orders = rest.orders }
finish_done_rests Ordinary now c k = let none = settle_tells_none now c in cc

finish_ended_fails : (generation : ℕ) (exit : Exit) (now : ℕ) (c : ChartState)
    → list_any is_failure_mark (finish_ended_move generation exit now c).marks ≡ true → Fails c (finish_ended_move generation exit now c)
finish_ended_fails generation exit now c k = by (is_in_finish generation c) refl k
  where
    by : (b : Bool) → is_in_finish generation c ≡ b
        → list_any is_failure_mark (cond b (finish_done_move (verdict_of exit) now c) (stale_move c)).marks ≡ true
        → Fails c (cond b (finish_done_move (verdict_of exit) now c) (stale_move c))
    by true e h = record { rests = finish_done_rests (verdict_of exit) now c h; finishing = both_left (is_finishing c.phase) _ e }
    by false e h = cc

changed_fails : (change : Change) (now : ℕ) (c : ChartState) → list_any is_failure_mark (changed_by change now c).marks ≡ true
    → Fails c (changed_by change now c)
changed_fails (Report (Started _ generation pid)) now c k =
    none_fails c (started_move generation pid now c) (started_tells_none generation pid now c) k
changed_fails (Report (StartFailed _ generation)) now c k =
    none_fails c (start_failed_move generation now c) (start_failed_tells_none generation now c) k
changed_fails (Report (Notify _ generation bytes)) now c k =
    none_fails c (notify_move generation bytes.items now c) (notified_tells_none generation bytes.items now c) k
changed_fails (Report (Death _ generation exit)) now c k = none_fails c (death_move generation exit now c) (death_tells_none generation exit now c) k
changed_fails (Report (FinishEnded _ generation exit)) now c k = finish_ended_fails generation exit now c k
changed_fails (Control letters) now c k = none_fails c (control_move letters.items now c) (letters_tell_none now letters.items (no_move c) refl) k
changed_fails Fire now c k = none_fails c (fire_move now c) (fire_tells_none now c) k
changed_fails (SetConfig config) now c k = cc
changed_fails (SetActive active) now c k = cc

commanded_tells_none : (order : ScanOrder) (now : ℕ) (c : ChartState) → TellsNoFailure (command_move order now c)
commanded_tells_none Nuke now c = by c.active
  where
    by : (b : Bool) → TellsNoFailure (cond b (no_move c) (control_move leave_letters now c))
    by true = refl
    by false = letters_tell_none now leave_letters (no_move c) refl
commanded_tells_none Terminate now c = letters_tell_none now leave_letters (no_move (with_activity false now c)) refl

pub did_fails : (did : Did) (now : ℕ) (c : ChartState) → list_any is_failure_mark (move_of did now c).marks ≡ true → Fails c (move_of did now c)
did_fails (takes None) now c k = cc
did_fails (takes (Some change)) now c k = changed_fails change now c k
did_fails (obeys order) now c k = none_fails c (command_move order now c) (commanded_tells_none order now c) k
did_fails (looks listing) now c k = cc
