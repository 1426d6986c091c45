-- What each move of a service signals: a run that is there.
use Rattle.std.proofs.Common.{◌≡◌, refl, sym, ℕ, ◌+◌, ◌≤◌, List, [], ◌∷◌, ◌++◌, ◌==◌, ◌&&◌, Bool, true, false, cond, fold, arith, rules}
use Rattle.std.specs.Prelude.{Option, Some, None}
use Rattle.std.specs.List.{AllByRecursion}
use Rattle.std.proofs.lemmas.Bool.Decides.{Decides-eqb}
use Rattle.s6_events.specs.declared.exit.Exit.{Exit}
use Rattle.s6_events.specs.declared.mark.Mark.TheVariants.{Spawned, Died, FinishDone}
use Rattle.s6_events.specs.declared.order.Order.{Order}
use Rattle.s6_events.specs.declared.order.Order.TheVariants.{Signal}
use Rattle.servicedir.specs.declared.config.Config.{Config}
use Rattle.control_letters.specs.declared.control_letter.ControlLetter.{ControlLetter}
use Rattle.supervise_core.specs.declared.change.Change.{Change}
use Rattle.s6_events.specs.declared.report.Report.TheVariants.{Started, StartFailed, Notify, Death, FinishEnded}
use Rattle.supervise_core.specs.declared.change.Change.TheVariants.{Report, Control, Fire, SetConfig, SetActive}
use Rattle.supervise_core.specs.declared.chart_state.ChartState.{ChartState}
use Rattle.supervise_core.specs.declared.phase.Phase.{Phase}
use Rattle.supervise_core.specs.declared.phase.Phase.TheVariants.{Down, Starting, Up, Finish, Gone}
use Rattle.supervise_core.specs.ChartState.{Moved, no_move, stale_move, with_mark, is_up, is_starting}
use Rattle.supervise_core.specs.ControlLetters.{then_move}
use Rattle.supervise_core.specs.Moves.{settle_move, finish_move, down_signal_move}
use Rattle.supervise_core.specs.Reports.{is_awaiting, is_running, with_run, with_last_exit, with_reported_death}
use Rattle.supervise_core.specs.Chart.{started_move, start_failed_move, notify_move, death_move, finish_ended_move, control_move, letter_move}
use Rattle.supervise_core.specs.Chart.{fire_move, changed_by, with_activity}
use Rattle.svscan_core.specs.declared.entry.Entry.{Entry}
use Rattle.svscan_core.specs.declared.entry.ScanOrder.{ScanOrder}
use Rattle.svscan_core.specs.declared.entry.ScanOrder.TheVariants.{Nuke, Terminate}
use Rattle.svscan_core.specs.Listing.{has_entry, listed_config}
use Rattle.svscan_core.specs.Scan.{with_read_config, after_look}
use Rattle.svscan_core.specs.Work.{command_move, leave_letters}
use Rattle.tree_core.proofs.OwnScan.{begins}
use Rattle.tree_core.proofs.OwnWork.{Did, move_of, told_of, IsFresh}
use Rattle.tree_core.proofs.OwnWork.Did.{takes, obeys, looks}

-- the first generation whose death is still to come
abbrev pub first_alive : Phase → ℕ → ℕ
first_alive Starting generation = generation
first_alive Up generation = generation
first_alive phase generation = generation + 1

-- a run that is up is there, by this test
abbrev pub IsFine : (ℕ → Bool) → Phase → ℕ → Type 0
IsFine there Up generation = there generation ≡ true
IsFine there phase generation = Unit

-- an order signals nothing, or a run that is there
abbrev pub IsFair : (ℕ → Bool) → Order → Type 0
IsFair there (Signal sid generation number) = there generation ≡ true
IsFair there order = Unit

abbrev pub AllFair : (ℕ → Bool) → List Order → Type 0
AllFair there orders = AllByRecursion (IsFair there) orders

pub record Signals (there : ℕ → Bool) (c : ChartState) (m : Moved) : Type 0 where
  pub fair : AllFair there m.orders
  pub up : IsFine there m.chart.phase m.chart.generation
  pub later : first_alive c.phase c.generation ≤ first_alive m.chart.phase m.chart.generation

pub all_fair_append : (there : ℕ → Bool) (xs ys : List Order) → AllFair there xs → AllFair there ys → AllFair there (xs ++ ys)
all_fair_append there [] ys h k = k
all_fair_append there (x ∷ xs) ys h k = (h.0, all_fair_append there xs ys h.1 k)

still_signals : (there : ℕ → Bool) (c : ChartState) → IsFine there c.phase c.generation → Signals there c (no_move c)
still_signals there c h = record { fair = tt; up = h; later = omega arith }

pub fire_signals : (there : ℕ → Bool) (now : ℕ) (c : ChartState) → IsFine there c.phase c.generation → Signals there c (fire_move now c)
fire_signals there now c h = search (h, rules)

letter_signals : (there : ℕ → Bool) (now : ℕ) (letter : ControlLetter) (c : ChartState) → IsFine there c.phase c.generation
    → Signals there c (letter_move now letter c)
letter_signals there now letter c h = search (h, rules)

awaiting_first : (p : Phase) (generation now : ℕ) → (is_starting p && (now == generation)) ≡ true → first_alive p now ≤ now
awaiting_first Starting generation now e = omega arith
awaiting_first Down generation now e = cc
awaiting_first Up generation now e = cc
awaiting_first Finish generation now e = cc
awaiting_first Gone generation now e = cc

spawned_signals : (there : ℕ → Bool) (pid now : ℕ) (c : ChartState) → there c.generation ≡ true → first_alive c.phase c.generation ≤ c.generation
    → Signals there c (with_mark Spawned (cond c.down_pending (down_signal_move now (record (with_run pid c) { down_pending = false }))
    (no_move (with_run pid c))))
spawned_signals there pid now c h first = by c.down_pending
  where
    by : (b : Bool) → Signals there c (with_mark Spawned
        (cond b (down_signal_move now (record (with_run pid c) { down_pending = false })) (no_move (with_run pid c))))
    by true = record { fair = (h, (h, tt)); up = h; later = first }
    by false = record { fair = tt; up = h; later = first }

started_signals : (there : ℕ → Bool) (generation pid now : ℕ) (c : ChartState) → IsFine there c.phase c.generation
    → (is_awaiting generation c ≡ true → there c.generation ≡ true)
    → Signals there c (started_move generation pid now c)
started_signals there generation pid now c h k = by (is_awaiting generation c) refl
  where
    by : (b : Bool) → is_awaiting generation c ≡ b
        → Signals there c (cond b (with_mark Spawned
        (cond c.down_pending (down_signal_move now (record (with_run pid c) { down_pending = false })) (no_move (with_run pid c)))) (stale_move c))
    by true e = spawned_signals there pid now c (k e) (awaiting_first c.phase generation c.generation e)
    by false e = record { fair = tt; up = h; later = omega arith }

start_failed_signals : (there : ℕ → Bool) (generation now : ℕ) (c : ChartState) → IsFine there c.phase c.generation
    → Signals there c (start_failed_move generation now c)
start_failed_signals there generation now c h = search (h, rules)

notified_signals : (there : ℕ → Bool) (generation : ℕ) (bytes : List ℕ) (now : ℕ) (c : ChartState) → IsFine there c.phase c.generation
    → Signals there c (notify_move generation bytes now c)
notified_signals there generation bytes now c h = search (h, rules)

death_signals : (there : ℕ → Bool) (generation : ℕ) (exit : Exit) (now : ℕ) (c : ChartState) → IsFine there c.phase c.generation
    → Signals there c (death_move generation exit now c)
death_signals there generation exit now c h = search (h, rules)

finish_ended_signals : (there : ℕ → Bool) (generation : ℕ) (exit : Exit) (now : ℕ) (c : ChartState) → IsFine there c.phase c.generation
    → Signals there c (finish_ended_move generation exit now c)
finish_ended_signals there generation exit now c h = search (h, rules)

active_signals : (there : ℕ → Bool) (active : Bool) (now : ℕ) (c : ChartState) → IsFine there c.phase c.generation
    → Signals there c (no_move (with_activity active now c))
active_signals there active now c h = search (h, rules)

-- after its death was reported no run of the generation is alive
settle_first : (now : ℕ) (c : ChartState) → c.generation + 1 ≤ first_alive (settle_move now c).chart.phase (settle_move now c).chart.generation
settle_first now c = search rules

death_first : (generation : ℕ) (exit : Exit) (now : ℕ) (c : ChartState) → (death_move generation exit now c).stale ≡ false
    → generation + 1 ≤ first_alive (death_move generation exit now c).chart.phase (death_move generation exit now c).chart.generation
death_first generation exit now c fresh = by (is_running generation c) refl fresh
  where
    rest : Moved
    rest = with_reported_death now exit (with_mark Died
        (cond c.config.finish (finish_move exit now (with_last_exit exit now c))
        (with_mark FinishDone (settle_move now (with_last_exit exit now c)))))

    the_first : c.generation + 1 ≤ first_alive rest.chart.phase rest.chart.generation
    the_first = by_finish c.config.finish (settle_first now (with_last_exit exit now c))
      where
        by_finish : (b : Bool) → c.generation + 1
            ≤ first_alive (settle_move now (with_last_exit exit now c)).chart.phase (settle_move now (with_last_exit exit now c)).chart.generation
            → c.generation + 1 ≤ first_alive (cond b (finish_move exit now (with_last_exit exit now c))
            (with_mark FinishDone (settle_move now (with_last_exit exit now c)))).chart.phase
            (cond b (finish_move exit now (with_last_exit exit now c))
            (with_mark FinishDone (settle_move now (with_last_exit exit now c)))).chart.generation
        by_finish true h = omega arith
        by_finish false h = h

    same : (b : Bool) → (b && (c.generation == generation)) ≡ true → generation ≡ c.generation
    same true e = sym ((Decides-eqb c.generation generation).0 e)
    same false e = cc

    by : (b : Bool) → is_running generation c ≡ b → (cond b rest (stale_move c)).stale ≡ false
        → generation + 1 ≤ first_alive (cond b rest (stale_move c)).chart.phase (cond b rest (stale_move c)).chart.generation
    by true e f = let first = the_first in let it : generation ≡ c.generation = same (is_up c.phase) e in omega (arith, first, it)
    by false e f = cc

-- two moves, one after the other
followed_signals : (there : ℕ → Bool) (now : ℕ) (letter : ControlLetter) (c : ChartState) (m : Moved) → Signals there c m
    → Signals there c (then_move (letter_move now letter) m)
followed_signals there now letter c m h =
    let one = letter_signals there now letter m.chart h.up in
    let a = h.later in
    let b = one.later in
    record {
      fair = all_fair_append there m.orders (letter_move now letter m.chart).orders h.fair one.fair;
      up = one.up;
      later =
          omega (arith, a, b);
    }

letters_signal : (there : ℕ → Bool) (now : ℕ) (letters : List ControlLetter) (c : ChartState) (m : Moved) → Signals there c m
    → Signals there c (fold (λ so_far letter. then_move (letter_move now letter) so_far) m letters)
letters_signal there now [] c m h = h
letters_signal there now (letter ∷ letters) c m h =
    letters_signal there now letters c (then_move (letter_move now letter) m) (followed_signals there now letter c m h)

control_signals : (there : ℕ → Bool) (letters : List ControlLetter) (now : ℕ) (c : ChartState) → IsFine there c.phase c.generation
    → Signals there c (control_move letters now c)
control_signals there letters now c h = letters_signal there now letters c (no_move c) (still_signals there c h)

-- what is told as a start is of a run that is there
abbrev pub TellsStart : (ℕ → Bool) → ChartState → Option Change → Type 0
TellsStart there c (Some (Report (Started _ generation pid))) = is_awaiting generation c ≡ true → there c.generation ≡ true
TellsStart there c told = Unit

changed_signals : (there : ℕ → Bool) (change : Change) (now : ℕ) (c : ChartState) → TellsStart there c (Some change)
    → IsFine there c.phase c.generation → Signals there c (changed_by change now c)
changed_signals there (Report (Started _ generation pid)) now c k h = started_signals there generation pid now c h k
changed_signals there (Report (StartFailed _ generation)) now c k h = start_failed_signals there generation now c h
changed_signals there (Report (Notify _ generation bytes)) now c k h = notified_signals there generation bytes.items now c h
changed_signals there (Report (Death _ generation exit)) now c k h = death_signals there generation exit now c h
changed_signals there (Report (FinishEnded _ generation exit)) now c k h = finish_ended_signals there generation exit now c h
changed_signals there (Control letters) now c k h = control_signals there letters.items now c h
changed_signals there Fire now c k h = fire_signals there now c h
changed_signals there (SetConfig config) now c k h = record { fair = tt; up = h; later = omega arith }
changed_signals there (SetActive active) now c k h = active_signals there active now c h

commanded_signals : (there : ℕ → Bool) (order : ScanOrder) (now : ℕ) (c : ChartState) → IsFine there c.phase c.generation
    → Signals there c (command_move order now c)
commanded_signals there Nuke now c h = by c.active
  where
    by : (b : Bool) → Signals there c (cond b (no_move c) (control_move leave_letters now c))
    by true = still_signals there c h
    by false = control_signals there leave_letters now c h
commanded_signals there Terminate now c h =
    let away = active_signals there false now c h in
    let told = control_signals there leave_letters now (with_activity false now c) away.up in
    let a = away.later in
    let b = told.later in
    record { fair = told.fair; up = told.up; later = omega (arith, a, b) }

looked_signals : (there : ℕ → Bool) (listing : List Entry) (now : ℕ) (c : ChartState) → IsFine there c.phase c.generation
    → Signals there c (no_move (after_look listing now c))
looked_signals there listing now c h = by (listed_config listing c.name) (active_signals there (has_entry listing c.name) now c h)
  where
    by : (found : Option Config) → Signals there c (no_move (with_activity (has_entry listing c.name) now c))
        → Signals there c (no_move (with_read_config found (with_activity (has_entry listing c.name) now c)))
    by None away = away
    by (Some config) away = record { fair = tt; up = away.up; later = away.later }

pub did_signals : (there : ℕ → Bool) (did : Did) (now : ℕ) (c : ChartState) → TellsStart there c (told_of did) → IsFine there c.phase c.generation
    → Signals there c (move_of did now c)
did_signals there (takes None) now c k h = still_signals there c h
did_signals there (takes (Some change)) now c k h = changed_signals there change now c k h
did_signals there (obeys order) now c k h = commanded_signals there order now c h
did_signals there (looks listing) now c k h = looked_signals there listing now c h

-- a death that is told is that of a run below the first one that is alive
abbrev pub TellsDeath : ℕ → Option Change → Type 0
TellsDeath first (Some (Report (Death _ generation exit))) = generation + 1 ≤ first
TellsDeath first told = Unit

pub did_dies : (did : Did) (now : ℕ) (c : ChartState) → IsFresh did now c
    → TellsDeath (first_alive (move_of did now c).chart.phase (move_of did now c).chart.generation) (told_of did)
did_dies (takes None) now c fresh = tt
did_dies (takes (Some (Report (Started _ generation pid)))) now c fresh = tt
did_dies (takes (Some (Report (StartFailed _ generation)))) now c fresh = tt
did_dies (takes (Some (Report (Notify _ generation bytes)))) now c fresh = tt
did_dies (takes (Some (Report (Death _ generation exit)))) now c fresh = death_first generation exit now c fresh
did_dies (takes (Some (Report (FinishEnded _ generation exit)))) now c fresh = tt
did_dies (takes (Some (Control letters))) now c fresh = tt
did_dies (takes (Some Fire)) now c fresh = tt
did_dies (takes (Some (SetConfig config))) now c fresh = tt
did_dies (takes (Some (SetActive active))) now c fresh = tt
did_dies (obeys order) now c fresh = tt
did_dies (looks listing) now c fresh = tt

pub begins_fair : (there : ℕ → Bool) (sid : ℕ) (name : List ℕ) (config : Config) → AllFair there (begins sid name config).orders
begins_fair there sid name config = search rules

pub begins_not_up : (there : ℕ → Bool) (sid : ℕ) (name : List ℕ) (config : Config)
    → IsFine there (begins sid name config).chart.phase (begins sid name config).chart.generation
begins_not_up there sid name config = search rules
