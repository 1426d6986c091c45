-- One life at a time: what each move of a service starts, and when.
use Rattle.std.proofs.Common.{◌≡◌, refl, sym, ap, ◌∙◌, ℕ, ◌+◌, List, [], ◌∷◌, ◌++◌, ◌==◌, ◌&&◌, Bool, true, false, cond, fold, append-nil}
use Rattle.std.proofs.Common.{append_assoc, add-one, rules}
use Rattle.std.specs.Prelude.{Option, Some, None}
use Rattle.std.specs.List.{AllByRecursion}
use Rattle.std.proofs.lemmas.Grind.{flat_map-append}
use Rattle.std.proofs.lemmas.Bool.Decides.{Decides-eqb}
use Rattle.s6_events.specs.declared.mark.Mark.TheVariants.{SupervisorStarted, Died, FinishDone}
use Rattle.finish_core.specs.declared.exit_verdict.Verdict125.{Verdict125}
use Rattle.finish_core.specs.declared.exit_verdict.Verdict125.TheVariants.{Permanent, Ordinary}
use Rattle.finish_core.specs.ExitVerdict.{verdict_of}
use Rattle.s6_events.specs.declared.exit.Exit.{Exit}
use Rattle.s6_events.specs.declared.order.Order.{Order}
use Rattle.s6_events.specs.declared.order.Order.TheVariants.{Run}
use Rattle.servicedir.specs.declared.config.Config.{Config}
use Rattle.control_letters.specs.declared.control_letter.ControlLetter.{ControlLetter}
use Rattle.supervise_core.specs.declared.change.Change.{Change}
use Rattle.s6_events.specs.declared.report.Report.TheVariants.{Started, StartFailed, Notify, Death, FinishEnded}
use Rattle.supervise_core.specs.declared.change.Change.TheVariants.{Report, Control, Fire, SetConfig, SetActive}
use Rattle.supervise_core.specs.declared.chart_state.ChartState.{ChartState}
use Rattle.supervise_core.specs.declared.phase.Phase.{Phase}
use Rattle.supervise_core.specs.declared.phase.Phase.TheVariants.{Down, Starting, Up, Finish, Gone}
use Rattle.supervise_core.specs.ChartState.{Moved, no_move, stale_move, with_mark, new_service, is_up, is_starting, is_finishing}
use Rattle.supervise_core.specs.ControlLetters.{then_move}
use Rattle.supervise_core.specs.Moves.{settle_move, finish_move, run_move, at_beginning}
use Rattle.supervise_core.specs.Reports.{is_awaiting, is_running, is_in_finish, failed_spawn_move, with_last_exit, with_reported_death}
use Rattle.supervise_core.specs.Reports.{finish_done_move}
use Rattle.supervise_core.specs.Chart.{started_move, start_failed_move, notify_move, death_move, finish_ended_move, control_move, letter_move}
use Rattle.supervise_core.specs.Chart.{fire_move, changed_by, with_activity}
use Rattle.svscan_core.specs.declared.entry.Entry.{Entry}
use Rattle.svscan_core.specs.declared.entry.ScanOrder.{ScanOrder}
use Rattle.svscan_core.specs.declared.entry.ScanOrder.TheVariants.{Nuke, Terminate}
use Rattle.svscan_core.specs.Listing.{has_entry, listed_config}
use Rattle.svscan_core.specs.Scan.{with_read_config, after_look}
use Rattle.svscan_core.specs.Work.{command_move, leave_letters}
use Rattle.tree_core.specs.OneLife.{generation_of, generations_of, up_to}
use Rattle.tree_core.proofs.OwnScan.{begins}
use Rattle.tree_core.proofs.OwnWork.{Did, move_of, told_of}
use Rattle.tree_core.proofs.OwnSteps.{orders_by}
use Rattle.tree_core.proofs.OwnWork.Did.{takes, obeys, looks}

-- in these phases the next run may come, which is to be so by this test
abbrev pub MayStart : (ℕ → Bool) → Phase → ℕ → Type 0
MayStart may Starting generation = Unit
MayStart may Up generation = Unit
MayStart may phase generation = may (generation + 1) ≡ true

-- an order starts no run, or one that may come
abbrev pub IsAllowed : (ℕ → Bool) → Order → Type 0
IsAllowed may (Run sid generation name descriptor) = may generation ≡ true
IsAllowed may order = Unit

abbrev pub AllAllowed : (ℕ → Bool) → List Order → Type 0
AllAllowed may orders = AllByRecursion (IsAllowed may) orders

-- the runs that a list of orders starts are those between two generations: none, or the next one
abbrev pub Counts : ℕ → List ℕ → ℕ → Type 0
Counts before generations now = up_to before ++ generations ≡ up_to now

pub record Lives (may : ℕ → Bool) (c : ChartState) (m : Moved) : Type 0 where
  pub counted : Counts c.generation (generations_of m.orders) m.chart.generation
  pub allowed : AllAllowed may m.orders
  pub next : MayStart may m.chart.phase m.chart.generation

counts_none : (n : ℕ) → Counts n [] n
counts_none n = append-nil (up_to n)

counts_one : (n : ℕ) → Counts n ((n + 1) ∷ []) (n + 1)
counts_one n = rw add-one refl

fire_lives : (may : ℕ → Bool) (now : ℕ) (c : ChartState) → MayStart may c.phase c.generation → Lives may c (fire_move now c)
fire_lives may now c h = search (h, counts_none, counts_one, rules)

started_lives : (may : ℕ → Bool) (generation pid now : ℕ) (c : ChartState) → MayStart may c.phase c.generation
    → Lives may c (started_move generation pid now c)
started_lives may generation pid now c h = search (h, counts_none, counts_one, rules)

settle_lives : (may : ℕ → Bool) (now : ℕ) (c : ChartState) → may (c.generation + 1) ≡ true → Lives may c (settle_move now c)
settle_lives may now c h = search (h, counts_none, counts_one, rules)

letter_lives : (may : ℕ → Bool) (now : ℕ) (letter : ControlLetter) (c : ChartState) → MayStart may c.phase c.generation
    → Lives may c (letter_move now letter c)
letter_lives may now letter c h = search (h, counts_none, counts_one, rules)

not_spawned_lives : (may : ℕ → Bool) (now : ℕ) (c : ChartState) → may (c.generation + 1) ≡ true → Lives may c (failed_spawn_move now c)
not_spawned_lives may now c h = search (h, counts_none, counts_one, rules)

refused_lives : (may : ℕ → Bool) (c : ChartState) → MayStart may c.phase c.generation → Lives may c (stale_move c)
refused_lives may c h = record { counted = counts_none c.generation; allowed = tt; next = h }

notified_lives : (may : ℕ → Bool) (generation : ℕ) (bytes : List ℕ) (now : ℕ) (c : ChartState) → MayStart may c.phase c.generation
    → Lives may c (notify_move generation bytes now c)
notified_lives may generation bytes now c h = search (h, counts_none, counts_one, rules)

-- what a report tells ends a run
abbrev pub IsEnd : (ℕ → Bool) → Option Change → Type 0
IsEnd may (Some (Report (Death _ generation exit))) = may (generation + 1) ≡ true
IsEnd may (Some (Report (StartFailed _ generation))) = may (generation + 1) ≡ true
IsEnd may told = Unit

the_same : (may : ℕ → Bool) (is : Bool) (generation now : ℕ) → (is && (now == generation)) ≡ true → may (generation + 1) ≡ true
    → may (now + 1) ≡ true
the_same may true generation now e h = ap (λ n. may (n + 1)) ((Decides-eqb now generation).0 e) ∙ h
the_same may false generation now e h = cc

in_finish : (may : ℕ → Bool) (p : Phase) (generation now : ℕ) → (is_finishing p && (now == generation)) ≡ true → MayStart may p now
    → may (now + 1) ≡ true
in_finish may Finish generation now e h = h
in_finish may Down generation now e h = cc
in_finish may Starting generation now e h = cc
in_finish may Up generation now e h = cc
in_finish may Gone generation now e h = cc

start_failed_lives : (may : ℕ → Bool) (generation now : ℕ) (c : ChartState) → may (generation + 1) ≡ true → MayStart may c.phase c.generation
    → Lives may c (start_failed_move generation now c)
start_failed_lives may generation now c ended h = by (is_awaiting generation c) (is_in_finish generation c) refl refl
  where
    by : (a f : Bool) → is_awaiting generation c ≡ a → is_in_finish generation c ≡ f
        → Lives may c (cond a (failed_spawn_move now c) (cond f (with_mark FinishDone (settle_move now c)) (stale_move c)))
    by true f e g = not_spawned_lives may now c (the_same may (is_starting c.phase) generation c.generation e ended)
    by false true e g =
        let rest = settle_lives may now c (in_finish may c.phase generation c.generation g h) in
        record { counted = rest.counted; allowed = rest.allowed; next = rest.next }
    by false false e g = refused_lives may c h

after_death_lives : (may : ℕ → Bool) (exit : Exit) (now : ℕ) (c : ChartState) → may (c.generation + 1) ≡ true
    → Lives may c (with_reported_death now exit
    (with_mark Died (cond c.config.finish (finish_move exit now (with_last_exit exit now c))
    (with_mark FinishDone (settle_move now (with_last_exit exit now c))))))
after_death_lives may exit now c h = by c.config.finish (settle_lives may now (with_last_exit exit now c) h)
  where
    by : (b : Bool) → Lives may (with_last_exit exit now c) (settle_move now (with_last_exit exit now c))
        → Lives may c (with_reported_death now exit
        (with_mark Died (cond b (finish_move exit now (with_last_exit exit now c))
        (with_mark FinishDone (settle_move now (with_last_exit exit now c))))))
    by true rest = record { counted = counts_none c.generation; allowed = (tt, tt); next = h }
    by false rest = record { counted = rest.counted; allowed = rest.allowed; next = rest.next }

death_lives : (may : ℕ → Bool) (generation : ℕ) (exit : Exit) (now : ℕ) (c : ChartState) → may (generation + 1) ≡ true
    → MayStart may c.phase c.generation
    → Lives may c (death_move generation exit now c)
death_lives may generation exit now c ended h = by (is_running generation c) refl
  where
    by : (b : Bool) → is_running generation c ≡ b
        → Lives may c (cond b (with_reported_death now exit
        (with_mark Died (cond c.config.finish (finish_move exit now (with_last_exit exit now c))
        (with_mark FinishDone (settle_move now (with_last_exit exit now c)))))) (stale_move c))
    by true e = after_death_lives may exit now c (the_same may (is_up c.phase) generation c.generation e ended)
    by false e = refused_lives may c h

finish_done_lives : (may : ℕ → Bool) (v : Verdict125) (now : ℕ) (c : ChartState) → may (c.generation + 1) ≡ true
    → Lives may c (finish_done_move v now c)
finish_done_lives may Permanent now c h =
    let rest = settle_lives may now (record c { wanted_up = false }) h in record
    { counted = rest.counted; allowed = rest.allowed; next = rest.next }
finish_done_lives may Ordinary now c h = let rest =
    settle_lives may now c h in record { counted = rest.counted; allowed = rest.allowed; next = rest.next }

finish_ended_lives : (may : ℕ → Bool) (generation : ℕ) (exit : Exit) (now : ℕ) (c : ChartState) → MayStart may c.phase c.generation
    → Lives may c (finish_ended_move generation exit now c)
finish_ended_lives may generation exit now c h = by (is_in_finish generation c) refl
  where
    by : (b : Bool) → is_in_finish generation c ≡ b → Lives may c (cond b (finish_done_move (verdict_of exit) now c) (stale_move c))
    by true e = finish_done_lives may (verdict_of exit) now c (in_finish may c.phase generation c.generation e h)
    by false e = refused_lives may c h

-- two moves, one after the other
all_allowed_append : (may : ℕ → Bool) (xs ys : List Order) → AllAllowed may xs → AllAllowed may ys → AllAllowed may (xs ++ ys)
all_allowed_append may [] ys h k = k
all_allowed_append may (x ∷ xs) ys h k = (h.0, all_allowed_append may xs ys h.1 k)

counts_both : (a b d : ℕ) (xs ys : List Order) → Counts a (generations_of xs) b → Counts b (generations_of ys) d
    → Counts a (generations_of (xs ++ ys)) d
counts_both a b d xs ys h k =
    ap (λ gs. up_to a ++ gs) (flat_map-append generation_of xs ys)
    ∙ (sym (append_assoc (up_to a) (generations_of xs) (generations_of ys)) ∙ (ap (λ gs. gs ++ generations_of ys) h ∙ k))

followed_lives : (may : ℕ → Bool) (now : ℕ) (letter : ControlLetter) (c : ChartState) (m : Moved) → Lives may c m
    → Lives may c (then_move (letter_move now letter) m)
followed_lives may now letter c m h =
    let one = letter_lives may now letter m.chart h.next in
    record {
      counted = counts_both c.generation m.chart.generation (letter_move now letter m.chart).chart.generation m.orders
          (letter_move now letter m.chart).orders h.counted one.counted;
      allowed = all_allowed_append may m.orders (letter_move now letter m.chart).orders h.allowed one.allowed;
      next = one.next;
    }

letters_live : (may : ℕ → Bool) (now : ℕ) (letters : List ControlLetter) (c : ChartState) (m : Moved) → Lives may c m
    → Lives may c (fold (λ so_far letter. then_move (letter_move now letter) so_far) m letters)
letters_live may now [] c m h = h
letters_live may now (letter ∷ letters) c m h =
    letters_live may now letters c (then_move (letter_move now letter) m) (followed_lives may now letter c m h)

still_lives : (may : ℕ → Bool) (c : ChartState) → MayStart may c.phase c.generation → Lives may c (no_move c)
still_lives may c h = record { counted = counts_none c.generation; allowed = tt; next = h }

control_lives : (may : ℕ → Bool) (letters : List ControlLetter) (now : ℕ) (c : ChartState) → MayStart may c.phase c.generation
    → Lives may c (control_move letters now c)
control_lives may letters now c h = letters_live may now letters c (no_move c) (still_lives may c h)

active_lives : (may : ℕ → Bool) (active : Bool) (now : ℕ) (c : ChartState) → MayStart may c.phase c.generation
    → Lives may c (no_move (with_activity active now c))
active_lives may active now c h = search (h, counts_none, rules)

changed_lives : (may : ℕ → Bool) (change : Change) (now : ℕ) (c : ChartState) → IsEnd may (Some change) → MayStart may c.phase c.generation
    → Lives may c (changed_by change now c)
changed_lives may (Report (Started _ generation pid)) now c ended h = started_lives may generation pid now c h
changed_lives may (Report (StartFailed _ generation)) now c ended h = start_failed_lives may generation now c ended h
changed_lives may (Report (Notify _ generation bytes)) now c ended h = notified_lives may generation bytes.items now c h
changed_lives may (Report (Death _ generation exit)) now c ended h = death_lives may generation exit now c ended h
changed_lives may (Report (FinishEnded _ generation exit)) now c ended h = finish_ended_lives may generation exit now c h
changed_lives may (Control letters) now c ended h = control_lives may letters.items now c h
changed_lives may Fire now c ended h = fire_lives may now c h
changed_lives may (SetConfig config) now c ended h = record { counted = counts_none c.generation; allowed = tt; next = h }
changed_lives may (SetActive active) now c ended h = active_lives may active now c h

commanded_lives : (may : ℕ → Bool) (order : ScanOrder) (now : ℕ) (c : ChartState) → MayStart may c.phase c.generation
    → Lives may c (command_move order now c)
commanded_lives may Nuke now c h = by c.active
  where
    by : (b : Bool) → Lives may c (cond b (no_move c) (control_move leave_letters now c))
    by true = still_lives may c h
    by false = control_lives may leave_letters now c h
commanded_lives may Terminate now c h =
    let away = active_lives may false now c h in
    let told = control_lives may leave_letters now (with_activity false now c) away.next in
    record {
      counted = counts_both c.generation (with_activity false now c).generation (command_move Terminate now c).chart.generation []
          (command_move Terminate now c).orders away.counted told.counted;
      allowed = told.allowed;
      next = told.next;
    }

looked_lives : (may : ℕ → Bool) (listing : List Entry) (now : ℕ) (c : ChartState) → MayStart may c.phase c.generation
    → Lives may c (no_move (after_look listing now c))
looked_lives may listing now c h = by (listed_config listing c.name) (active_lives may (has_entry listing c.name) now c h)
  where
    by : (found : Option Config) → Lives may c (no_move (with_activity (has_entry listing c.name) now c))
        → Lives may c (no_move (with_read_config found (with_activity (has_entry listing c.name) now c)))
    by None away = away
    by (Some config) away = record { counted = away.counted; allowed = tt; next = away.next }

did_lives : (may : ℕ → Bool) (did : Did) (now : ℕ) (c : ChartState) → IsEnd may (told_of did) → MayStart may c.phase c.generation
    → Lives may c (move_of did now c)
did_lives may (takes None) now c ended h = still_lives may c h
did_lives may (takes (Some change)) now c ended h = changed_lives may change now c ended h
did_lives may (obeys order) now c ended h = commanded_lives may order now c h
did_lives may (looks listing) now c ended h = looked_lives may listing now c h

-- a timer, and then an act
pub record LivesOn (may : ℕ → Bool) (c : ChartState) (orders : List Order) (after : ChartState) : Type 0 where
  pub counted : Counts c.generation (generations_of orders) after.generation
  pub allowed : AllAllowed may orders
  pub next : MayStart may after.phase after.generation

pub step_lives : (may : ℕ → Bool) (did : Did) (now : ℕ) (c : ChartState) → IsEnd may (told_of did) → MayStart may c.phase c.generation
    → LivesOn may c (orders_by did now c) (move_of did now (fire_move now c).chart).chart
step_lives may did now c ended h =
    let first = fire_lives may now c h in
    let second = did_lives may did now (fire_move now c).chart ended first.next in
    record {
      counted = counts_both c.generation (fire_move now c).chart.generation (move_of did now (fire_move now c).chart).chart.generation
          (fire_move now c).orders (move_of did now (fire_move now c).chart).orders first.counted second.counted;
      allowed = all_allowed_append may (fire_move now c).orders (move_of did now (fire_move now c).chart).orders first.allowed second.allowed;
      next = second.next;
    }

pub begins_lives : (may : ℕ → Bool) (sid : ℕ) (name : List ℕ) (config : Config) → may 1 ≡ true
    → LivesOn may (new_service sid name config) (begins sid name config).orders (begins sid name config).chart
begins_lives may sid name config h = by config.down
  where
    by : (b : Bool) → LivesOn may (new_service sid name config)
        (with_mark SupervisorStarted (cond b (no_move (at_beginning (new_service sid name config)))
        (run_move (at_beginning (new_service sid name config))))).orders
        (with_mark SupervisorStarted (cond b (no_move (at_beginning (new_service sid name config)))
        (run_move (at_beginning (new_service sid name config))))).chart
    by true = record { counted = refl; allowed = tt; next = h }
    by false = record { counted = refl; allowed = (h, tt); next = tt }
