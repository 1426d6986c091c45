-- What a move of a service orders is for that service.
use Rattle.std.proofs.Common.{◌≡◌, refl, ℕ, List, [], ◌∷◌, ◌++◌, Bool, true, false, fold, cond, subst, ◌==◌, rules}
use Rattle.std.specs.List.{AllByRecursion}
use Rattle.s6_events.specs.declared.exit.Exit.{Exit}
use Rattle.s6_events.specs.declared.order.Order.{Order}
use Rattle.servicedir.specs.declared.config.Config.{Config}
use Rattle.control_letters.specs.declared.control_letter.ControlLetter.{ControlLetter}
use Rattle.supervise_core.specs.declared.change.Change.{Change}
use Rattle.s6_events.specs.declared.report.Report.TheVariants.{Started, StartFailed, Notify, Death, FinishEnded}
use Rattle.supervise_core.specs.declared.change.Change.TheVariants.{Report, Control, Fire, SetConfig, SetActive}
use Rattle.supervise_core.specs.declared.chart_state.ChartState.{ChartState}
use Rattle.supervise_core.specs.ChartState.{Moved, no_move, new_service}
use Rattle.supervise_core.specs.Chart.{started_move, start_failed_move, notify_move, death_move, finish_ended_move, control_move, letter_move}
use Rattle.supervise_core.specs.Chart.{fire_move, changed_by, with_activity}
use Rattle.supervise_core.specs.ControlLetters.{then_move}
use Rattle.supervise_core.specs.Moves.{begin_move}
use Rattle.supervise_core.proofs.Identity.{keeps_active}
use Rattle.svscan_core.specs.declared.entry.ScanOrder.{ScanOrder}
use Rattle.svscan_core.specs.declared.entry.ScanOrder.TheVariants.{Nuke, Terminate}
use Rattle.svscan_core.specs.Work.{change_move_at, command_move, leave_letters}
use Rattle.tree_core.specs.Taken.{sid_of_order}

-- each of the orders is for the service of this serial
abbrev pub AllFor : ℕ → List Order → Type 0
AllFor sid orders = AllByRecursion (λ order. sid_of_order order ≡ sid) orders

abbrev pub ForIt : ChartState → Moved → Type 0
ForIt c moved = AllFor c.sid moved.orders

all_for_append : (sid : ℕ) (xs ys : List Order) → AllFor sid xs → AllFor sid ys → AllFor sid (xs ++ ys)
all_for_append sid [] ys h k = k
all_for_append sid (x ∷ xs) ys h k = (h.0, all_for_append sid xs ys h.1 k)

pub for_fire : (now : ℕ) (c : ChartState) → ForIt c (fire_move now c)
for_fire now c = search rules

for_started : (generation pid now : ℕ) (c : ChartState) → ForIt c (started_move generation pid now c)
for_started generation pid now c = search rules

for_start_failed : (generation now : ℕ) (c : ChartState) → ForIt c (start_failed_move generation now c)
for_start_failed generation now c = search rules

for_notified : (generation : ℕ) (bytes : List ℕ) (now : ℕ) (c : ChartState) → ForIt c (notify_move generation bytes now c)
for_notified generation bytes now c = search rules

for_death : (generation : ℕ) (exit : Exit) (now : ℕ) (c : ChartState) → ForIt c (death_move generation exit now c)
for_death generation exit now c = search rules

for_finish_ended : (generation : ℕ) (exit : Exit) (now : ℕ) (c : ChartState) → ForIt c (finish_ended_move generation exit now c)
for_finish_ended generation exit now c = search rules

-- a letter keeps the serial
record Keeps (sid : ℕ) (moved : Moved) : Type 0 where
  same : moved.chart.sid ≡ sid
  orders : AllFor sid moved.orders

for_letter : (now : ℕ) (letter : ControlLetter) (c : ChartState) → Keeps c.sid (letter_move now letter c)
for_letter now letter c = record { same = search rules; orders = search rules }

for_next : (sid : ℕ) (now : ℕ) (letter : ControlLetter) (c : ChartState) → c.sid ≡ sid → Keeps sid (letter_move now letter c)
for_next sid now letter c e = by sid e
  where
    by : (n : ℕ) → c.sid ≡ n → Keeps n (letter_move now letter c)
    by n same = rw (← same) (for_letter now letter c)

for_rest : (sid now : ℕ) (letters : List ControlLetter) (m : Moved) → Keeps sid m
    → Keeps sid (fold (λ so_far letter. then_move (letter_move now letter) so_far) m letters)
for_rest sid now [] m h = h
for_rest sid now (letter ∷ rest) m h =
    let one = for_next sid now letter m.chart h.same in
    for_rest sid now rest (then_move (letter_move now letter) m)
    (record { same = one.same; orders = all_for_append sid m.orders (letter_move now letter m.chart).orders h.orders one.orders })

for_control : (letters : List ControlLetter) (now : ℕ) (c : ChartState) → ForIt c (control_move letters now c)
for_control letters now c = (for_rest c.sid now letters (no_move c) (record { same = refl; orders = tt })).orders

pub for_changed : (change : Change) (now : ℕ) (c : ChartState) → ForIt c (changed_by change now c)
for_changed (Report (Started _ generation pid)) now c = for_started generation pid now c
for_changed (Report (StartFailed _ generation)) now c = for_start_failed generation now c
for_changed (Report (Notify _ generation bytes)) now c = for_notified generation bytes.items now c
for_changed (Report (Death _ generation exit)) now c = for_death generation exit now c
for_changed (Report (FinishEnded _ generation exit)) now c = for_finish_ended generation exit now c
for_changed (Control letters) now c = for_control letters.items now c
for_changed Fire now c = for_fire now c
for_changed (SetConfig config) now c = tt
for_changed (SetActive active) now c = tt

pub for_changed_at : (sid : ℕ) (change : Change) (now : ℕ) (c : ChartState) → ForIt c (change_move_at sid change now c)
for_changed_at sid change now c = by (c.sid == sid)
  where
    by : (b : Bool) → ForIt c (cond b (changed_by change now c) (no_move c))
    by true = for_changed change now c
    by false = tt

for_same : (n m : ℕ) (orders : List Order) → n ≡ m → AllFor n orders → AllFor m orders
for_same n m orders e h = subst (λ x. AllFor x orders) e h

pub for_commanded : (order : ScanOrder) (now : ℕ) (c : ChartState) → ForIt c (command_move order now c)
for_commanded Nuke now c = by c.active
  where
    by : (b : Bool) → ForIt c (cond b (no_move c) (control_move leave_letters now c))
    by true = tt
    by false = for_control leave_letters now c
for_commanded Terminate now c = for_same (with_activity false now c).sid c.sid (command_move Terminate now c).orders (keeps_active false now c).sid
    (for_control leave_letters now (with_activity false now c))

pub for_begin : (sid : ℕ) (name : List ℕ) (config : Config) → AllFor sid (begin_move (new_service sid name config)).orders
for_begin sid name config = search rules
