-- The steps of a run, as one service goes through them: what a law has to show of each kind of step, and then it holds of each run.
use Rattle.std.proofs.Common.{◌≡◌, refl, sym, ap, subst, ◌∙◌, ℕ, zero, suc, ◌≤◌, ◌<◌, List, [], ◌∷◌, ◌++◌, ◌==◌, Bool, true, false, cond, arith}
use Rattle.std.proofs.Common.{append_assoc, append-nil, bytes_eq}
use Rattle.std.specs.Prelude.{Option, Some, None, max}
use Rattle.s6_events.specs.declared.mark.Mark.{Mark}
use Rattle.s6_events.specs.declared.order.Order.{Order}
use Rattle.servicedir.specs.declared.config.Config.{Config}
use Rattle.supervise_core.specs.declared.change.Change.{Change}
use Rattle.supervise_core.specs.declared.change.Change.TheVariants as changes
use Rattle.supervise_core.specs.declared.chart_state.ChartState.{ChartState}
use Rattle.supervise_core.specs.Chart.{fire_move}
use Rattle.supervise_core.proofs.Identity.{keeps_fire, keeps_changed, keeps_begin}
use Rattle.svscan_core.specs.Moves.{services_after, events_after, orders_after}
use Rattle.svscan_core.proofs.Names.{keeps_commanded, keeps_look}
use Rattle.tree_core.specs.declared.input.Act.{Act}
use Rattle.tree_core.specs.declared.input.Act.TheVariants.{Svc}
use Rattle.tree_core.specs.declared.input.Input.{Input}
use Rattle.tree_core.specs.Acts.{act_result}
use Rattle.tree_core.specs.ActRefusals.{service_named}
use Rattle.tree_core.specs.Machine.{Machine, new_machine}
use Rattle.tree_core.specs.Run.{after, after_all}
use Rattle.tree_core.specs.Step.{StepResult, with_clock, with_moves, timed_step, with_listeners, spent_step, step, step_limit}
use Rattle.tree_core.specs.Taken.{StepTaken, steps_taken, steps_taken_from, next_step, clock_in, services_of, marks_of, orders_of, marks_in}
use Rattle.tree_core.specs.Taken.{orders_in, if_found, change_by_act, change_in_step, is_done}
use Rattle.tree_core.proofs.Owners.{for_fire}
use Rattle.tree_core.proofs.OwnMoves.{marks_behind, orders_behind}
use Rattle.tree_core.proofs.OwnScan.{begins}
use Rattle.tree_core.proofs.OwnWork.{Did, move_of, told_of, IsFresh, Shown, ActOf, YetOf, AwayOf, one_moved, none_moved}
use Rattle.tree_core.proofs.OwnWork.Did.{takes, obeys, looks}
use Rattle.tree_core.proofs.OwnWork.ActOf.{does, goes}
use Rattle.tree_core.proofs.OwnWork.YetOf.{still_waits, comes}
use Rattle.tree_core.proofs.OwnAct.{if_done, act_own, act_yet, act_away}

-- what a law says of a serial after some steps: before its service came, while it stands, at a clock, and after it was dropped; and
-- what it says of the next step
pub record Law (A : Type 0) : Type 1 where
  pub Unborn : List (StepTaken A) → Type 0
  pub Living : List (StepTaken A) → ℕ → ChartState → Type 0
  pub Dropped : List (StepTaken A) → Type 0
  pub Check : List (StepTaken A) → StepTaken A → Type 0

-- a step shows this of a serial
pub record Shows (A : Type 0) (sid : ℕ) (t : StepTaken A) (marks : List Mark) (orders : List Order) (told : Option Change) : Type 0 where
  pub marks_shown : marks_in sid t ≡ marks
  pub orders_shown : orders_in sid t ≡ orders
  pub told_so : change_in_step sid t ≡ told

-- the marks and orders of a step of a service that stands: first those of its timer, then those of the act
abbrev pub marks_by : Did → ℕ → ChartState → List Mark
marks_by did now c = (fire_move now c).marks ++ (move_of did now (fire_move now c).chart).marks

abbrev pub orders_by : Did → ℕ → ChartState → List Order
orders_by did now c = (fire_move now c).orders ++ (move_of did now (fire_move now c).chart).orders

-- what has to be shown of each kind of step
pub record Steps (A : Type 0) (sid : ℕ) (law : Law A) : Type 0 where
  pub none_yet : (ts : List (StepTaken A)) (t : StepTaken A) → law.Unborn ts → Shows A sid t [] [] None → law.Check ts t × law.Unborn (ts ++ t ∷ [])
  pub born : (ts : List (StepTaken A)) (t : StepTaken A) (now : ℕ) (name : List ℕ) (config : Config) → clock_in t ≡ now → law.Unborn ts
      → Shows A sid t (begins sid name config).marks (begins sid name config).orders None
      → law.Check ts t × law.Living (ts ++ t ∷ []) now (begins sid name config).chart
  pub still : (ts : List (StepTaken A)) (t : StepTaken A) (clock : ℕ) (c : ChartState) → law.Living ts clock c → Shows A sid t [] [] None
      → law.Check ts t × law.Living (ts ++ t ∷ []) clock c
  pub moves : (ts : List (StepTaken A)) (t : StepTaken A) (clock now : ℕ) (c : ChartState) (did : Did) → clock_in t ≡ now → clock ≤ now
      → c.sid ≡ sid → law.Living ts clock c
      → IsFresh did now (fire_move now c).chart → Shows A sid t (marks_by did now c) (orders_by did now c) (told_of did)
      → law.Check ts t × law.Living (ts ++ t ∷ []) now (move_of did now (fire_move now c).chart).chart
  pub ends : (ts : List (StepTaken A)) (clock : ℕ) (c : ChartState) → law.Living ts clock c → law.Dropped ts
  pub none_more : (ts : List (StepTaken A)) (t : StepTaken A) → law.Dropped ts → Shows A sid t [] [] None
      → law.Check ts t × law.Dropped (ts ++ t ∷ [])

-- what it keeps of the machine after these steps
pub data Keeps (A : Type 0) (sid : ℕ) (law : Law A) (ts : List (StepTaken A)) (m : Machine) : Type 0 where
  unborn : m.next_sid ≤ sid → services_of sid m.services ≡ [] → law.Unborn ts → Keeps A sid law ts m
  living : (c : ChartState) → sid < m.next_sid → services_of sid m.services ≡ c ∷ [] → c.sid ≡ sid → law.Living ts m.clock c → Keeps A sid law ts m
  dropped : sid < m.next_sid → services_of sid m.services ≡ [] → law.Dropped ts → Keeps A sid law ts m

abbrev pub the_step : {A : Type 0} → Machine → Input A → StepTaken A
the_step m input = record { machine = m; input = input }

-- a service keeps its serial
did_keeps : (did : Did) (now sid : ℕ) (c : ChartState) → c.sid ≡ sid → (move_of did now c).chart.sid ≡ sid
did_keeps (takes None) now sid c e = e
did_keeps (takes (Some change)) now sid c e = (keeps_changed change now c).sid ∙ e
did_keeps (obeys order) now sid c e = (keeps_commanded order now c).sid ∙ e
did_keeps (looks listing) now sid c e = (keeps_look listing now c).sid ∙ e

-- timers change no name and no serial, so who is told stays
found_fired : (now : ℕ) (name : List ℕ) (sid : ℕ) (change : Change) (cs : List ChartState)
    → if_found (service_named name (services_after (fire_move now) cs)) sid change ≡ if_found (service_named name cs) sid change
found_fired now name sid change [] = refl
found_fired now name sid change (c ∷ cs) =
    ap (λ n. if_found (cond (bytes_eq name n) (Some (fire_move now c).chart) (service_named name (services_after (fire_move now) cs))) sid change)
    (keeps_fire now c).name
    ∙ by (bytes_eq name c.name) (found_fired now name sid change cs)
  where
    by : (b : Bool) → if_found (service_named name (services_after (fire_move now) cs)) sid change ≡ if_found (service_named name cs) sid change
        → if_found (cond b (Some (fire_move now c).chart) (service_named name (services_after (fire_move now) cs))) sid change
        ≡ if_found (cond b (Some c) (service_named name cs)) sid change
    by true rest = ap (λ n. cond (n == sid) (Some change) None) (keeps_fire now c).sid
    by false rest = rest

told_fired : {A : Type 0} (act : Act A) (now sid : ℕ) (cs : List ChartState)
    → change_by_act act sid (services_after (fire_move now) cs) ≡ change_by_act act sid cs
told_fired (Svc name letters) now sid cs = found_fired now name sid (changes.Control letters) cs
told_fired act now sid cs = refl

-- the machine of a step when its act is done: the clock was read and the timers took their rules
abbrev fired : {A : Type 0} → Machine → Input A → Machine
fired m input = with_moves (fire_move (with_clock input.at m).clock) (with_clock input.at m)

abbrev taken_on : {A : Type 0} → Machine → Input A → StepResult A
taken_on m input = with_listeners m input.at (timed_step input.act (with_clock input.at m))

-- what an act shows, with what the timers showed before it
shows_both : {A : Type 0} (sid : ℕ) (m : Machine) (input : Input A) (marks more_marks : List Mark) (orders more_orders : List Order)
    (told : Option Change)
    → step m input ≡ taken_on m input
    → marks_of sid (events_after (fire_move (with_clock input.at m).clock) m.services) ≡ marks
    → orders_of sid (orders_after (fire_move (with_clock input.at m).clock) m.services) ≡ orders
    → marks_of sid (act_result input.act (fired m input)).work.events ≡ more_marks
    → orders_of sid (act_result input.act (fired m input)).work.orders ≡ more_orders
    → if_done (is_done (act_result input.act (fired m input)).reply) (change_by_act input.act sid (fired m input).services) ≡ told
    → Shows A sid (the_step m input) (marks ++ more_marks) (orders ++ more_orders) told
shows_both {A} sid m input marks more_marks orders more_orders told is fm fo am ao at = record {
  marks_shown = ap (λ (s : StepResult A). marks_of sid s.outcome.events) is
      ∙ (marks_behind sid _ (act_result input.act (fired m input)).work.events ∙ (λ i. fm i ++ am i));
  orders_shown = ap (λ (s : StepResult A). orders_of sid s.outcome.orders) is
      ∙ (orders_behind sid _ (act_result input.act (fired m input)).work.orders ∙ (λ i. fo i ++ ao i));
  told_so =
      ap (λ (s : StepResult A). if_done (is_done s.outcome.reply) (change_by_act input.act sid m.services)) is
      ∙ (ap (λ x. if_done (is_done (act_result input.act (fired m input)).reply) x)
      (sym (told_fired input.act (with_clock input.at m).clock sid m.services)) ∙ at);
}

later_clock : (a b : ℕ) → a ≤ max a b
later_clock a b = omega arith

record Both (A : Type 0) (sid : ℕ) (law : Law A) (ts : List (StepTaken A)) (m : Machine) (input : Input A) : Type 0 where
  check : law.Check ts (the_step m input)
  keeps : Keeps A sid law (ts ++ the_step m input ∷ []) (after m input)

-- a step that is counted
taken_living : {A : Type 0} (sid : ℕ) (law : Law A) (steps : Steps A sid law) (ts : List (StepTaken A)) (m : Machine) (input : Input A)
    (c : ChartState) (is : step m input ≡ taken_on m input)
    → sid < m.next_sid → services_of sid m.services ≡ c ∷ [] → c.sid ≡ sid → law.Living ts m.clock c
    → Shown sid (services_after (fire_move (with_clock input.at m).clock) m.services)
    (events_after (fire_move (with_clock input.at m).clock) m.services) (orders_after (fire_move (with_clock input.at m).clock) m.services)
    ((fire_move (with_clock input.at m).clock c).chart ∷ []) (fire_move (with_clock input.at m).clock c).marks
    (fire_move (with_clock input.at m).clock c).orders
    → ActOf sid (with_clock input.at m).clock (fire_move (with_clock input.at m).clock c).chart
    (if_done (is_done (act_result input.act (fired m input)).reply) (change_by_act input.act sid (fired m input).services))
    (act_result input.act (fired m input)).work
    → Both A sid law ts m input
taken_living {A} sid law steps ts m input c is lower one same h timers (does did told fresh later act) =
    let now = (with_clock input.at m).clock in
    let clock_is : (after m input).clock ≡ now = ap (λ (s : StepResult A). s.machine.clock) is in
    let done = steps.moves ts (the_step m input) m.clock now c did clock_is (later_clock m.clock input.at) same h fresh
    (shows_both sid m input _ _ _ _ (told_of did) is timers.marks timers.orders act.marks act.orders told) in
    record {
      check = done.0;
      keeps = living (move_of did now (fire_move now c).chart).chart
          (subst (λ (s : StepResult A). sid < s.machine.next_sid) (sym is) later)
          (ap (λ (s : StepResult A). services_of sid s.machine.services) is ∙ act.services)
          (did_keeps did now sid (fire_move now c).chart ((keeps_fire now c).sid ∙ same))
          (subst (λ n. law.Living (ts ++ the_step m input ∷ []) n (move_of did now (fire_move now c).chart).chart) (sym clock_is) done.1);
    }
taken_living {A} sid law steps ts m input c is lower one same h timers (goes told later act) =
    let now = (with_clock input.at m).clock in
    let clock_is : (after m input).clock ≡ now = ap (λ (s : StepResult A). s.machine.clock) is in
    let done = steps.moves ts (the_step m input) m.clock now c (takes None) clock_is (later_clock m.clock input.at) same h tt
    (shows_both sid m input _ _ _ _ None is timers.marks timers.orders act.marks act.orders told) in
    record {
      check = done.0;
      keeps = dropped
          (subst (λ (s : StepResult A). sid < s.machine.next_sid) (sym is) later)
          (ap (λ (s : StepResult A). services_of sid s.machine.services) is ∙ act.services)
          (steps.ends (ts ++ the_step m input ∷ []) now (fire_move now c).chart done.1);
    }

taken_yet : {A : Type 0} (sid : ℕ) (law : Law A) (steps : Steps A sid law) (ts : List (StepTaken A)) (m : Machine) (input : Input A)
    (is : step m input ≡ taken_on m input) → law.Unborn ts
    → Shown sid (services_after (fire_move (with_clock input.at m).clock) m.services)
    (events_after (fire_move (with_clock input.at m).clock) m.services) (orders_after (fire_move (with_clock input.at m).clock) m.services) [] [] []
    → YetOf sid (if_done (is_done (act_result input.act (fired m input)).reply) (change_by_act input.act sid (fired m input).services))
    (act_result input.act (fired m input)).work
    → Both A sid law ts m input
taken_yet {A} sid law steps ts m input is h timers (still_waits told below act) =
    let done = steps.none_yet ts (the_step m input) h
    (shows_both sid m input [] [] [] [] None is timers.marks timers.orders act.marks act.orders told) in
    record {
      check = done.0;
      keeps = unborn (subst (λ (s : StepResult A). s.machine.next_sid ≤ sid) (sym is) below)
          (ap (λ (s : StepResult A). services_of sid s.machine.services) is ∙ act.services) done.1;
    }
taken_yet {A} sid law steps ts m input is h timers (comes name config told later act) =
    let now = (with_clock input.at m).clock in
    let clock_is : (after m input).clock ≡ now = ap (λ (s : StepResult A). s.machine.clock) is in
    let done = steps.born ts (the_step m input) now name config clock_is h
    (shows_both sid m input [] _ [] _ None is timers.marks timers.orders act.marks act.orders told) in
    record {
      check = done.0;
      keeps = living (begins sid name config).chart
          (subst (λ (s : StepResult A). sid < s.machine.next_sid) (sym is) later)
          (ap (λ (s : StepResult A). services_of sid s.machine.services) is ∙ act.services)
          (keeps_begin sid name config).sid
          (subst (λ n. law.Living (ts ++ the_step m input ∷ []) n (begins sid name config).chart) (sym clock_is) done.1);
    }

taken_away : {A : Type 0} (sid : ℕ) (law : Law A) (steps : Steps A sid law) (ts : List (StepTaken A)) (m : Machine) (input : Input A)
    (is : step m input ≡ taken_on m input) → law.Dropped ts
    → Shown sid (services_after (fire_move (with_clock input.at m).clock) m.services)
    (events_after (fire_move (with_clock input.at m).clock) m.services) (orders_after (fire_move (with_clock input.at m).clock) m.services) [] [] []
    → AwayOf sid (if_done (is_done (act_result input.act (fired m input)).reply) (change_by_act input.act sid (fired m input).services))
    (act_result input.act (fired m input)).work
    → Both A sid law ts m input
taken_away {A} sid law steps ts m input is h timers act =
    let done = steps.none_more ts (the_step m input) h
    (shows_both sid m input [] [] [] [] None is timers.marks timers.orders act.shown.marks act.shown.orders act.told) in
    record {
      check = done.0;
      keeps = dropped (subst (λ (s : StepResult A). sid < s.machine.next_sid) (sym is) act.later)
          (ap (λ (s : StepResult A). services_of sid s.machine.services) is ∙ act.shown.services) done.1;
    }

taken_keeps : {A : Type 0} (sid : ℕ) (law : Law A) (steps : Steps A sid law) (ts : List (StepTaken A)) (m : Machine) (input : Input A)
    (is : step m input ≡ taken_on m input)
    → Keeps A sid law ts m → Both A sid law ts m input
taken_keeps sid law steps ts m input is (unborn below none h) =
    let now = (with_clock input.at m).clock in
    let timers = none_moved (fire_move now) sid m.services (keeps_fire now) (for_fire now) none in
    taken_yet sid law steps ts m input is h timers (act_yet input.act (fired m input) sid timers.services below)
taken_keeps sid law steps ts m input is (living c lower one same h) =
    let now = (with_clock input.at m).clock in
    let timers = one_moved (fire_move now) (fire_move now c) sid c m.services (keeps_fire now) (for_fire now) one refl in
    taken_living sid law steps ts m input c is lower one same h timers
    (act_own input.act (fired m input) sid (fire_move now c).chart timers.services ((keeps_fire now c).sid ∙ same) lower)
taken_keeps sid law steps ts m input is (dropped lower none h) =
    let now = (with_clock input.at m).clock in
    let timers = none_moved (fire_move now) sid m.services (keeps_fire now) (for_fire now) none in
    taken_away sid law steps ts m input is h timers (act_away input.act (fired m input) sid timers.services lower)

-- a step that is spent
shows_none : {A : Type 0} (sid : ℕ) (m : Machine) (input : Input A) → step m input ≡ spent_step m → Shows A sid (the_step m input) [] [] None
shows_none {A} sid m input is = record {
  marks_shown = ap (λ (s : StepResult A). marks_of sid s.outcome.events) is;
  orders_shown = ap (λ (s : StepResult A). orders_of sid s.outcome.orders) is;
  told_so = ap (λ (s : StepResult A). if_done (is_done s.outcome.reply) (change_by_act input.act sid m.services)) is;
}

spent_keeps : {A : Type 0} (sid : ℕ) (law : Law A) (steps : Steps A sid law) (ts : List (StepTaken A)) (m : Machine) (input : Input A)
    (is : step m input ≡ spent_step m)
    → Keeps A sid law ts m → Both A sid law ts m input
spent_keeps {A} sid law steps ts m input is (unborn below none h) =
    let done = steps.none_yet ts (the_step m input) h (shows_none sid m input is) in
    record {
      check = done.0;
      keeps = subst (λ (s : StepResult A). Keeps A sid law (ts ++ the_step m input ∷ []) s.machine) (sym is)
          (unborn below none done.1);
    }
spent_keeps {A} sid law steps ts m input is (living c lower one same h) =
    let done = steps.still ts (the_step m input) m.clock c h (shows_none sid m input is) in
    record {
      check = done.0;
      keeps = subst (λ (s : StepResult A). Keeps A sid law (ts ++ the_step m input ∷ []) s.machine) (sym is)
          (living c lower one same done.1);
    }
spent_keeps {A} sid law steps ts m input is (dropped lower none h) =
    let done = steps.none_more ts (the_step m input) h (shows_none sid m input is) in
    record {
      check = done.0;
      keeps = subst (λ (s : StepResult A). Keeps A sid law (ts ++ the_step m input ∷ []) s.machine) (sym is)
          (dropped lower none done.1);
    }

step_keeps : {A : Type 0} (sid : ℕ) (law : Law A) (steps : Steps A sid law) (ts : List (StepTaken A)) (m : Machine) (input : Input A)
    → Keeps A sid law ts m → Both A sid law ts m input
step_keeps {A} sid law steps ts m input h = by (m.steps == step_limit) refl
  where
    by : (b : Bool) → (m.steps == step_limit) ≡ b → Both A sid law ts m input
    by true e = spent_keeps sid law steps ts m input (ap (λ b. cond b (spent_step m) (taken_on m input)) e) h
    by false e = taken_keeps sid law steps ts m input (ap (λ b. cond b (spent_step m) (taken_on m input)) e) h

-- all steps of a run
run_keeps : {A : Type 0} (sid : ℕ) (law : Law A) (steps : Steps A sid law) (ts : List (StepTaken A)) (m : Machine) (inputs : List (Input A))
    → Keeps A sid law ts m
    → Keeps A sid law (ts ++ steps_taken_from m inputs) (after_all m inputs)
run_keeps {A} sid law steps ts m [] h = subst (λ xs. Keeps A sid law xs m) (sym (append-nil ts)) h
run_keeps {A} sid law steps ts m (input ∷ inputs) h =
    subst (λ xs. Keeps A sid law xs (after_all (after m input) inputs))
    (append_assoc ts (the_step m input ∷ []) (steps_taken_from (after m input) inputs))
    (run_keeps sid law steps (ts ++ the_step m input ∷ []) (after m input) inputs (step_keeps sid law steps ts m input h).keeps)

start_keeps : {A : Type 0} (sid : ℕ) (law : Law A) → law.Unborn [] → law.Dropped [] → Keeps A sid law [] new_machine
start_keeps {A} zero law u d = dropped (omega arith) refl d
start_keeps {A} (suc n) law u d = unborn (omega arith) refl u

-- what a law keeps after any run from the start, and what it says of the step after it
pub kept : {A : Type 0} (sid : ℕ) (law : Law A) (steps : Steps A sid law) → law.Unborn [] → law.Dropped [] → (inputs : List (Input A))
    → Keeps A sid law (steps_taken inputs) (after_all new_machine inputs)
kept sid law steps u d inputs = run_keeps sid law steps [] new_machine inputs (start_keeps sid law u d)

pub checked : {A : Type 0} (sid : ℕ) (law : Law A) (steps : Steps A sid law) → law.Unborn [] → law.Dropped []
    → (inputs : List (Input A)) (input : Input A)
    → law.Check (steps_taken inputs) (next_step inputs input)
checked sid law steps u d inputs input = (step_keeps sid law steps (steps_taken inputs) (after_all new_machine inputs) input
    (kept sid law steps u d inputs)).check
