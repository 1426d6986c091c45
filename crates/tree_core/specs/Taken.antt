-- The steps of a run, one by one, as the laws look at them: what each of them shows of one service.
use Rattle.std.specs.Prelude.{ℕ, List, [], ◌∷◌, map, filter, ◌==◌, Bool, true, false, Option, None, Some, if◌then◌else◌}
use Rattle.std.specs.List.{flat_map}
use Rattle.s6_events.specs.declared.mark.Mark.{Mark}
use Rattle.s6_events.specs.declared.order.Order.{Order}
use Rattle.s6_events.specs.declared.order.Order.TheVariants.{Run, Finish, Signal, KillFinish}
use Rattle.supervise_core.specs.declared.change.Change.{Change}
use Rattle.s6_events.specs.declared.report.Report.TheVariants as reports
use Rattle.supervise_core.specs.declared.change.Change.TheVariants as changes
use Rattle.supervise_core.specs.declared.chart_state.ChartState.{ChartState}
use Rattle.svscan_core.specs.declared.event.Event.{Event}
use Rattle.tree_core.specs.declared.input.Act.{Act}
use Rattle.tree_core.specs.declared.input.Act.TheVariants.{Svc, Started, StartFailed, Notify, Death, FinishEnded}
use Rattle.tree_core.specs.declared.input.Input.{Input}
use Rattle.tree_core.specs.declared.reply.Reply.{Reply}
use Rattle.tree_core.specs.declared.reply.Reply.TheVariants.{Done}
use Rattle.tree_core.specs.ActRefusals.{service_named}
use Rattle.tree_core.specs.Machine.{Machine, Outcome, new_machine}
use Rattle.tree_core.specs.Run.{after, outcome, after_all}

-- a step that was taken: the machine before it, and its input
pub record StepTaken (A : Type 0) : Type 0 where
  pub machine : Machine
  pub input : Input A

-- the steps of a run from a machine on, and from the start
abbrev pub steps_taken_from : {A : Type 0} → Machine → List (Input A) → List (StepTaken A)
steps_taken_from m [] = []
steps_taken_from m (input ∷ inputs) = record { machine = m; input = input } ∷ steps_taken_from (after m input) inputs

abbrev pub steps_taken : {A : Type 0} → List (Input A) → List (StepTaken A)
steps_taken inputs = steps_taken_from new_machine inputs

-- the step that an input takes after these
abbrev pub next_step : {A : Type 0} → List (Input A) → Input A → StepTaken A
next_step inputs input = record { machine = after_all new_machine inputs; input = input }

-- what the step gave, and the clock at which it gave that
abbrev pub step_outcome : {A : Type 0} → StepTaken A → Outcome A
step_outcome t = outcome t.machine t.input

abbrev pub clock_in : {A : Type 0} → StepTaken A → ℕ
clock_in t = (after t.machine t.input).clock

-- the service of a serial, among those that stand
abbrev pub is_service : ℕ → ChartState → Bool
is_service sid c = c.sid == sid

abbrev pub services_of : ℕ → List ChartState → List ChartState
services_of sid services = filter (is_service sid) services

-- the marks of a service among all events
abbrev pub is_event_of : ℕ → Event → Bool
is_event_of sid e = e.sid == sid

abbrev pub marks_of : ℕ → List Event → List Mark
marks_of sid events = map (λ e. e.mark) (filter (is_event_of sid) events)

-- the orders for a service among all orders
abbrev pub sid_of_order : Order → ℕ
sid_of_order (Run sid generation name descriptor) = sid
sid_of_order (Finish sid generation name code signal) = sid
sid_of_order (Signal sid generation number) = sid
sid_of_order (KillFinish sid generation) = sid

abbrev pub is_order_of : ℕ → Order → Bool
is_order_of sid order = sid_of_order order == sid

abbrev pub orders_of : ℕ → List Order → List Order
orders_of sid orders = filter (is_order_of sid) orders

-- the marks and the orders of a service in a step
abbrev pub marks_in : {A : Type 0} → ℕ → StepTaken A → List Mark
marks_in sid t = marks_of sid (step_outcome t).events

abbrev pub orders_in : {A : Type 0} → ℕ → StepTaken A → List Order
orders_in sid t = orders_of sid (step_outcome t).orders

-- its marks in these steps
abbrev pub marks_given : {A : Type 0} → ℕ → List (StepTaken A) → List Mark
marks_given sid steps = flat_map (marks_in sid) steps

-- what an act tells the service of a serial: a report that names it, or letters to the name that it has
abbrev pub if_same : ℕ → ℕ → Change → Option Change
if_same of sid change = if of == sid then Some change else None

abbrev pub if_found : Option ChartState → ℕ → Change → Option Change
if_found None sid change = None
if_found (Some c) sid change = if_same c.sid sid change

abbrev pub change_by_act : {A : Type 0} → Act A → ℕ → List ChartState → Option Change
change_by_act (Svc name letters) sid services = if_found (service_named name services) sid (changes.Control letters)
change_by_act (Started of generation pid) sid services = if_same of sid (changes.Report (reports.Started of generation pid))
change_by_act (StartFailed of generation) sid services = if_same of sid (changes.Report (reports.StartFailed of generation))
change_by_act (Notify of generation bytes) sid services = if_same of sid (changes.Report (reports.Notify of generation bytes))
change_by_act (Death of generation exit) sid services = if_same of sid (changes.Report (reports.Death of generation exit))
change_by_act (FinishEnded of generation exit) sid services = if_same of sid (changes.Report (reports.FinishEnded of generation exit))
change_by_act act sid services = None

abbrev pub is_done : {A : Type 0} → Reply A → Bool
is_done Done = true
is_done reply = false

-- what a step told the service, where that was not refused
abbrev pub change_in_step : {A : Type 0} → ℕ → StepTaken A → Option Change
change_in_step sid t = if is_done (step_outcome t).reply then change_by_act t.input.act sid t.machine.services else None
