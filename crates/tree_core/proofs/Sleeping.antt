-- A tick before anything is due gives nothing, and changes nothing but the clock.
use Rattle.std.proofs.Common.{subst, ◌≡◌, refl, sym, ap, ◌∙◌, ℕ, List, [], ◌∷◌, ◌++◌, Bool, true, false, ◌==◌, cond, map, max, append-nil, arith}
use Rattle.std.proofs.lemmas.Bool.Decides.{nat_tests}
use Rattle.std.specs.Prelude.{Option, Some, None, fold, nat_lt, if◌then◌else◌}
use Rattle.event_directory.specs.Directories.{matches_by}
use Rattle.event_directory.specs.Pattern.{finds}
use Rattle.s6_events.specs.declared.moment.Moment.TheVariants.{Clock}
use Rattle.s6_events.specs.declared.order.Order.{Order}
use Rattle.supervise_core.specs.declared.chart_state.ChartState.{ChartState}
use Rattle.supervise_core.specs.ChartState.{Moved, no_move}
use Rattle.supervise_core.specs.Chart.{fire_move, is_due, timer_rule}
use Rattle.svscan_core.specs.declared.event.Event.{Event}
use Rattle.svscan_core.specs.Moves.{services_after, events_after, orders_after, events_of_move}
use Rattle.wait_conditions.specs.NextDeadline.{earlier_of, is_before, next_deadline}
use Rattle.wait_conditions.specs.Steps.{releases_by}
use Rattle.wait_conditions.proofs.Sleeping.{before_both, before_first, releases_none}
use Rattle.tree_core.specs.declared.input.Act.{Act}
use Rattle.tree_core.specs.declared.input.Act.TheVariants.{Tick}
use Rattle.tree_core.specs.declared.input.Input.{Input}
use Rattle.tree_core.specs.Listening.{as_match, as_release}
use Rattle.tree_core.specs.Machine.{Machine, directories_of, watch_of}
use Rattle.tree_core.specs.NextDue.{next_timer, next_due}
use Rattle.tree_core.specs.Sleep.{GivesNothing, beside_the_clock, SleepsUntilDue}
use Rattle.tree_core.specs.Step.{StepResult, spent_step, step_limit, timed_step, with_clock, with_listeners, step_moments}

-- a service whose timer is not due stays
not_due : (now : ℕ) (timer : Option ℕ) → is_before now timer ≡ true → is_due now timer ≡ false
not_due now None h = refl
not_due now (Some due) h = grind (arith, nat_tests)

stays : (now : ℕ) (c : ChartState) → is_before now c.timer ≡ true → fire_move now c ≡ no_move c
stays now c h = ap (λ b. cond b (timer_rule c.phase c) (no_move c)) (not_due now c.timer h)

-- all services stay, and give nothing
record AllRest (now : ℕ) (cs : List ChartState) : Type 0 where
  stay : services_after (fire_move now) cs ≡ cs
  events : events_after (fire_move now) cs ≡ []
  orders : orders_after (fire_move now) cs ≡ []

all_rest : (now : ℕ) (first : Option ℕ) (cs : List ChartState) → is_before now (fold earlier_of first (map (λ c. c.timer) cs)) ≡ true
    → AllRest now cs
all_rest now first [] h = record { stay = refl; events = refl; orders = refl }
all_rest now first (c ∷ cs) h =
    let rest : AllRest now cs = all_rest now (earlier_of first c.timer) cs h in
    let one : fire_move now c ≡ no_move c =
    stays now c (before_both now first c.timer (before_first now (earlier_of first c.timer) (map (λ d. d.timer) cs) h)).1 in
    record {
      stay = ap (λ (m : Moved). m.chart ∷ services_after (fire_move now) cs) one ∙ ap (λ ds. c ∷ ds) rest.stay;
      events = ap (λ (m : Moved). events_of_move c.sid m ++ events_after (fire_move now) cs) one ∙ rest.events;
      orders = ap (λ (m : Moved). m.orders ++ orders_after (fire_move now) cs) one ∙ rest.orders;
    }

-- a clock reading gives no match, and before the next deadline no release
no_match : (b : Bool) (m : Machine) (at : ℕ) → matches_by finds (directories_of m) (cond b (Clock at ∷ []) [] ++ []) ≡ []
unfolding matches_by
no_match true m at = refl
no_match false m at = refl

later_is_clock : (clock at : ℕ) → nat_lt clock at ≡ true → max clock at ≡ at
later_is_clock clock at h = grind (arith, nat_tests)

no_release : (b : Bool) (m : Machine) (at : ℕ) → nat_lt m.clock at ≡ b → is_before (max m.clock at) (next_deadline (watch_of m)) ≡ true
    → releases_by (watch_of m) (cond b (Clock at ∷ []) [] ++ []) ≡ []
no_release true m at e h =
    ap (λ found. found ++ [])
    (releases_none (watch_of m) at (subst (λ (n : ℕ). is_before n (next_deadline (watch_of m)) ≡ true) (later_is_clock m.clock at e) h))
no_release false m at e h = refl

abbrev tick_step : {A : Type 0} → Bool → Machine → ℕ → StepResult A
tick_step b m at = if b then spent_step m else with_listeners m at (timed_step Tick (with_clock at m))

record Sleeps {A : Type 0} (m : Machine) (s : StepResult A) : Type 0 where
  gives : GivesNothing s.outcome
  changes : beside_the_clock s.machine ≡ beside_the_clock m

sleeps_by : {A : Type 0} (b : Bool) (m : Machine) (at : ℕ) → is_before (max m.clock at) (next_due m) ≡ true → Sleeps m (tick_step {A = A} b m at)
sleeps_by true m at h = record { gives = record { events = refl; orders = refl; matched = refl; released = refl }; changes = refl }
sleeps_by false m at h =
    let now : ℕ = max m.clock at in
    let both = before_both now (next_timer m.services) (next_deadline (watch_of m)) h in
    let rest : AllRest now m.services = all_rest now None m.services both.0 in
    let no_event : events_after (fire_move now) m.services ++ [] ≡ [] = ap (λ (es : List Event). es ++ []) rest.events in
    record {
      gives = record {
        events = no_event;
        orders = ap (λ (os : List Order). os ++ []) rest.orders;
        matched =
            ap (λ (es : List Event). map as_match (matches_by finds (directories_of m) (step_moments m.clock at es)) ++ []) no_event
            ∙ ap (λ found. map as_match found ++ []) (no_match (nat_lt m.clock at) m at);
        released =
            ap (λ (es : List Event). map as_release (releases_by (watch_of m) (step_moments m.clock at es)) ++ []) no_event
            ∙ ap (λ found. map as_release found ++ []) (no_release (nat_lt m.clock at) m at refl both.1);
      };
      changes =
          ap (λ (cs : List ChartState). record (beside_the_clock m) { services = cs; deaths = m.deaths ++ [] }) rest.stay
          ∙ ap (λ ds. record (beside_the_clock m) { deaths = ds }) (append-nil m.deaths);
    }

with_act : {A : Type 0} (act : Act A) (m : Machine) (at : ℕ) → act ≡ Tick → is_before (max m.clock at) (next_due m) ≡ true
    → Sleeps m (if m.steps == step_limit then spent_step m else with_listeners m at (timed_step act (with_clock at m)))
with_act act m at tick early =
    subst (λ (a : Act _). Sleeps m (if m.steps == step_limit then spent_step m else with_listeners m at (timed_step a (with_clock at m))))
    (sym tick) (sleeps_by (m.steps == step_limit) m at early)

pub sleeps : {A : Type 0} (m : Machine) (input : Input A) → SleepsUntilDue m input
sleeps m input tick early =
    let asleep = with_act input.act m input.at tick early in record { gives = asleep.gives; changes = asleep.changes }
