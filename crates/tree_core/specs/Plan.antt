-- A step that is known before anything is changed.
use Rattle.std.specs.Prelude.{◌≡◌, ℕ, ◌+◌, ◌≤◌, ◌++◌, List, Bool, true, false, map}
use Rattle.std.specs.List.{list_any}
use Rattle.event_directory.specs.Changes.{Offer, directory_answer}
use Rattle.event_directory.specs.Pattern.{finds}
use Rattle.event_directory.specs.Remembered.{AreHeard, DirectoriesPrepared, DirectoriesShown, directories_after_commit}
use Rattle.s6_events.specs.Clock.{clock_of}
use Rattle.s6_events.specs.declared.moment.Moment.{Moment}
use Rattle.supervise_core.specs.declared.chart_state.ChartState.{ChartState}
use Rattle.supervise_core.specs.Chart.{fire_move, is_due}
use Rattle.supervise_core.specs.Service.{Supervised}
use Rattle.svscan_core.specs.Deaths.{AllTallied, AllBefore}
use Rattle.svscan_core.specs.Moves.{moment_of, services_after, events_after}
use Rattle.svscan_core.specs.Registry.{RegistryPrepared}
use Rattle.svscan_core.specs.Sound.{AllAgree, IsNumbered}
use Rattle.svscan_core.specs.Table.{charts_of}
use Rattle.tree_core.specs.declared.effect.Effect.{Effect}
use Rattle.tree_core.specs.declared.input.Act.{Act}
use Rattle.tree_core.specs.declared.input.Act.TheVariants.{Started, StartFailed, Notify, Death, FinishEnded}
use Rattle.tree_core.specs.declared.input.Act.TheVariants.{Status, Permafailon, Tick}
use Rattle.tree_core.specs.declared.input.Input.{Input}
use Rattle.tree_core.specs.declared.step.StepPlan.{StepPlan}
use Rattle.wait_conditions.specs.Stands.{WaitsShown, WaitsStandFor}
use Rattle.wait_conditions.specs.Steps.{WaitRequest, waits_after_change, wait_answer}
use Rattle.tree_core.specs.Acts.{act_result, ask_of, directory_ask_of, offer_of, work_of}
use Rattle.tree_core.specs.Listening.{Ask, watch_after, released_at_once}
use Rattle.tree_core.specs.Effect.{outcome_of}
use Rattle.tree_core.specs.Machine.{Machine, directories_at, directories_of, watch_at, watch_of}
use Rattle.tree_core.specs.Step.{step}
use Rattle.tree_core.specs.Choices.{Chosen, chosen_work, chosen_change, chosen_ask}
use Rattle.tree_core.specs.Replies.{ListenersAnswer, is_subscribed, released_by_answer, chosen_reply}

-- a machine after the due timers of these services went off at this moment
pub record HasFired (closing : Bool) (now : ℕ) (services : List Supervised) (history : List Moment)
    (m : Machine) : Type 0 where
  pub clock : m.clock ≡ now
  pub closing_is : m.closing ≡ closing
  pub services_are : m.services ≡ services_after (fire_move now) (charts_of services)
  pub past : m.history ≡ history ++ map moment_of (events_after (fire_move now) (charts_of services))
  pub agrees : AllAgree services history
  pub tallies : AllTallied services m.deaths
  pub order : IsNumbered m.next_sid (charts_of services)
  pub reading : clock_of history ≡ now

-- a change does what is asked of the machine's waiters, whatever moments have joined by then
pub record DoesAsk (ask : Ask) (change : WaitRequest) (m : Machine) : Type 0 where
  pub after : (h : List Moment) → waits_after_change (watch_at h m) change ≡ watch_after ask (watch_at h m)
  pub at_once : (h : List Moment) → released_by_answer (wait_answer (watch_at h m) change)
      ≡ released_at_once ask (watch_at h m)

-- what the waiters and the event directories answer to what was chosen, whatever moments have joined by then
abbrev pub answers_at : List Moment → Machine → Chosen → ListenersAnswer
answers_at h m chosen = record {
  waiters = wait_answer (watch_at h m) (chosen_change m.clock chosen);
  directories = directory_answer (chosen_ask chosen) (directories_at h m);
}

-- what was chosen is what the act does on the machine, in which the due timers of these services went off
pub record Chooses {A : Type 0} (act : Act A) (m : Machine) (services : List Supervised)
    (chosen : Chosen) : Type 0 where
  pub work : work_of act m ≡ chosen_work chosen
  pub hears : DoesAsk (ask_of act m) (chosen_change m.clock chosen) m
  pub asks : directory_ask_of act m ≡ chosen_ask chosen
  pub reply : (h : List Moment) → (act_result act m).reply
      ≡ chosen_reply chosen services (act_result act m).work (answers_at h m chosen)

-- what is there now, as a tree stores it
pub record PresentState : Type 0 where
  pub clock : ℕ
  pub steps : ℕ
  pub closing : Bool
  pub services : List Supervised
  pub next_sid : ℕ
  pub waits : WaitsShown
  pub directories : DirectoriesShown

abbrev pub present_state : ℕ → ℕ → Bool → List Supervised → ℕ → WaitsShown → DirectoriesShown → PresentState
present_state clock steps closing services next_sid waits directories =
    record {
      clock = clock;
      steps = steps;
      closing = closing;
      services = services;
      next_sid = next_sid;
      waits =
          waits;
      directories = directories;
    }

-- the present state of the machine is this: its history agrees with what the services store of their marks, their tallies have the last
-- of its deaths, and what is kept of waiters and subscriptions stands for those of the machine
pub record IsNow (p : PresentState) (m : Machine) : Type 0 where
  pub clock : m.clock ≡ p.clock
  pub steps : m.steps ≡ p.steps
  pub closing : m.closing ≡ p.closing
  pub services : m.services ≡ charts_of p.services
  pub next_sid : m.next_sid ≡ p.next_sid
  pub agrees : AllAgree p.services m.history
  pub tallies : AllTallied p.services m.deaths
  pub numbered : AllBefore p.next_sid m.deaths
  pub reading : m.clock ≡ clock_of m.history
  pub waiting : WaitsStandFor p.waits (watch_of m)
  pub hearing : AreHeard finds p.directories (directories_of m)

-- the act reads, and does nothing
abbrev pub is_reading : {A : Type 0} → Act A → Bool
is_reading (Status name) = true
is_reading (Permafailon name seconds count items) = true
is_reading Tick = true
is_reading act = false

-- the act is asked for: it is no report, and not the clock alone
abbrev pub is_request : {A : Type 0} → Act A → Bool
is_request (Started sid generation pid) = false
is_request (StartFailed sid generation) = false
is_request (Notify sid generation bytes) = false
is_request (Death sid generation exit) = false
is_request (FinishEnded sid generation exit) = false
is_request Tick = false
is_request act = true

-- an act that only reads, at a moment that isn't later than the clock, while no timer is due
pub record IsQuiet {A : Type 0} (input : Input A) (clock : ℕ) (services : List ChartState) : Type 0 where
  pub reading : is_reading input.act ≡ true
  pub early : input.at ≤ clock
  pub rest : list_any (λ c. is_due clock c.timer) services ≡ false

-- the plan, with what the table, the waiters and the event directories have prepared and the effect, is the step of the input
pub record Plans {A : Type 0} (m : Machine) (input : Input A) (plan : StepPlan A) (prepared : RegistryPrepared)
    (waits : WaitsShown) (directories : DirectoriesPrepared) (effect : Effect A) : Type 0 where
  pub clock : plan.now ≡ (step m input).machine.clock
  pub steps : m.steps + 1 ≡ (step m input).machine.steps
  pub closing : plan.closing ≡ (step m input).machine.closing
  pub services : charts_of prepared.services ≡ (step m input).machine.services
  pub next_sid : prepared.next_sid ≡ (step m input).machine.next_sid
  pub history : m.history ++ plan.history ≡ (step m input).machine.history
  pub outcome : outcome_of effect ≡ (step m input).outcome
  pub agrees : AllAgree prepared.services (m.history ++ plan.history)
  pub tallies : AllTallied prepared.services (step m input).machine.deaths
  pub numbered : AllBefore prepared.next_sid (step m input).machine.deaths
  pub waiting : WaitsStandFor waits (watch_of (step m input).machine)
  pub hearing : (offer : Offer) → (is_subscribed plan.letters.answer ≡ true → offer ≡ offer_of input.act)
      → AreHeard finds (directories_after_commit directories offer) (directories_of (step m input).machine)
