-- Services that leave: none of them starts a run again.
use Rattle.std.proofs.Common.{◌≡◌, ℕ, List, [], ◌∷◌, ◌==◌, fold, if◌then◌else◌, Bool, true, false, None, refl, ◌∙◌, rules}
use Rattle.std.specs.List.{list_any, AllByRecursion}
use Rattle.std.proofs.lemmas.List.Folds.{list_any-append}
use Rattle.control_letters.specs.declared.control_letter.ControlLetter.{ControlLetter}
use Rattle.s6_events.specs.declared.exit.Exit.{Exit}
use Rattle.supervise_core.specs.declared.change.Change.{Change}
use Rattle.supervise_core.specs.declared.chart_state.ChartState.{ChartState}
use Rattle.supervise_core.specs.declared.phase.Phase.{Phase}
use Rattle.supervise_core.specs.declared.phase.Phase.TheVariants.{Down, Gone}
use Rattle.supervise_core.specs.ChartState.{Moved, no_move}
use Rattle.supervise_core.specs.ControlLetters.{then_move}
use Rattle.supervise_core.specs.Chart.{fire_move, letter_move, control_move, started_move, start_failed_move, notify_move, death_move}
use Rattle.supervise_core.specs.Chart.{finish_ended_move, changed_by}
use Rattle.svscan_core.specs.Moves.{services_after, orders_after}
use Rattle.svscan_core.specs.Work.{terminate_move, change_move_at}
use Rattle.tree_core.specs.Closing.{is_run}

-- in this phase it will not start a run: its supervisor has ended for good, or is to end before its service is down
abbrev pub Ends : Phase → ChartState → Type 0
Ends Down c = ⊥
Ends Gone c = c.timer ≡ None
Ends phase c = c.exit_requested ≡ true

-- the service leaves: its directory is no longer listed, and it will not start a run
pub record IsLeaving (c : ChartState) : Type 0 where
  pub away : c.active ≡ false
  pub ends : Ends c.phase c

-- after the move the service still leaves, and the move starts no run
pub record Leaves (m : Moved) : Type 0 where
  pub chart : IsLeaving m.chart
  pub orders : list_any is_run m.orders ≡ false

still_leaves : (c : ChartState) → IsLeaving c → Leaves (no_move c)
still_leaves c h = record { chart = h; orders = refl }

pub fire_leaves : (now : ℕ) (c : ChartState) → IsLeaving c → Leaves (fire_move now c)
fire_leaves now c h = search (h, rules)

pub started_leaves : (generation pid now : ℕ) (c : ChartState) → IsLeaving c → Leaves (started_move generation pid now c)
started_leaves generation pid now c h = search (h, rules)

pub start_failed_leaves : (generation now : ℕ) (c : ChartState) → IsLeaving c → Leaves (start_failed_move generation now c)
start_failed_leaves generation now c h = search (h, rules)

pub notified_leaves : (generation : ℕ) (bytes : List ℕ) (now : ℕ) (c : ChartState) → IsLeaving c → Leaves (notify_move generation bytes now c)
notified_leaves generation bytes now c h = search (h, rules)

pub death_leaves : (generation : ℕ) (exit : Exit) (now : ℕ) (c : ChartState) → IsLeaving c → Leaves (death_move generation exit now c)
death_leaves generation exit now c h = search (h, rules)

pub finish_ended_leaves : (generation : ℕ) (exit : Exit) (now : ℕ) (c : ChartState) → IsLeaving c → Leaves (finish_ended_move generation exit now c)
finish_ended_leaves generation exit now c h = search (h, rules)

letter_leaves : (now : ℕ) (letter : ControlLetter) (c : ChartState) → IsLeaving c → Leaves (letter_move now letter c)
letter_leaves now letter c h = search (h, rules)

-- after a terminate
pub terminated_leaves : (now : ℕ) (c : ChartState) → IsLeaving (terminate_move now c).chart
terminated_leaves now c = search rules

-- one letter after the other
followed_leaves : (move : ChartState → Moved) (m : Moved) → ((c : ChartState) → IsLeaving c → Leaves (move c)) → Leaves m
    → Leaves (then_move move m)
followed_leaves move m moves so_far =
    let next = moves m.chart so_far.chart in
    record { chart = next.chart; orders = list_any-append is_run m.orders (move m.chart).orders ∙ rw (so_far.orders, next.orders) refl }

letters_leave : (now : ℕ) (letters : List ControlLetter) (m : Moved) → Leaves m
    → Leaves (fold (λ m letter. then_move (letter_move now letter) m) m letters)
letters_leave now [] m h = h
letters_leave now (letter ∷ letters) m h =
    letters_leave now letters (then_move (letter_move now letter) m) (followed_leaves (letter_move now letter) m (letter_leaves now letter) h)

pub control_leaves : (letters : List ControlLetter) (now : ℕ) (c : ChartState) → IsLeaving c → Leaves (control_move letters now c)
control_leaves letters now c h = letters_leave now letters (no_move c) (still_leaves c h)

-- the one service that a change is for, among all
pub changed_leaves : (sid : ℕ) (change : Change) (now : ℕ) → ((c : ChartState) → IsLeaving c → Leaves (changed_by change now c))
    → (c : ChartState) → IsLeaving c → Leaves (change_move_at sid change now c)
changed_leaves sid change now leaves c h = by (c.sid == sid)
  where
    by : (b : Bool) → Leaves (if b then changed_by change now c else no_move c)
    by true = leaves c h
    by false = still_leaves c h

-- all services leave
abbrev pub AllLeave : List ChartState → Type 0
AllLeave services = AllByRecursion IsLeaving services

pub moved_leave : (move : ChartState → Moved) → ((c : ChartState) → IsLeaving c → Leaves (move c))
    → (services : List ChartState) → AllLeave services
    → AllLeave (services_after move services) × (list_any is_run (orders_after move services) ≡ false)
moved_leave move moves [] h = (tt, refl)
moved_leave move moves (c ∷ services) h =
    let one = moves c h.0 in
    let rest = moved_leave move moves services h.1 in (
      (one.chart, rest.0),
      list_any-append is_run (move c).orders (orders_after move services) ∙ rw (one.orders, rest.1) refl,
    )

pub all_terminated : (now : ℕ) (services : List ChartState) → AllLeave (services_after (terminate_move now) services)
all_terminated now [] = tt
all_terminated now (c ∷ services) = (terminated_leaves now c, all_terminated now services)
