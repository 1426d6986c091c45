-- The clock of a machine is the last clock reading of its history, and a step keeps that.
use Rattle.std.proofs.Common.{◌≡◌, ℕ, List, [], ◌∷◌, ◌++◌, Bool, true, false, refl, sym, ◌∙◌, ap, map, max, arith}
use Rattle.std.specs.Prelude.{◌==◌, fold, nat_lt, if◌then◌else◌}
use Rattle.std.proofs.lemmas.Bool.Decides.{nat_tests}
use Rattle.s6_events.specs.Clock.{clock_of, clock_after}
use Rattle.s6_events.specs.declared.moment.Moment.{Moment}
use Rattle.s6_events.specs.declared.moment.Moment.TheVariants.{Clock}
use Rattle.supervise_core.specs.Chart.{fire_move}
use Rattle.svscan_core.specs.declared.event.Event.{Event}
use Rattle.tree_core.specs.declared.input.Input.{Input}
use Rattle.tree_core.specs.Acts.{act_result}
use Rattle.tree_core.specs.Machine.{Machine}
use Rattle.svscan_core.specs.Moves.{moment_of, events_after}
use Rattle.tree_core.specs.Step.{step, spent_step, timed_step, with_listeners, with_clock, with_moves, step_limit, clock_moments, StepResult}

clock-append : (clock : ℕ) (xs ys : List Moment) → fold clock_after clock (xs ++ ys) ≡ fold clock_after (fold clock_after clock xs) ys
clock-append clock [] ys = refl
clock-append clock (x ∷ xs) ys = clock-append (clock_after clock x) xs ys

-- marks leave the clock
clock-marks : (clock : ℕ) (events : List Event) → fold clock_after clock (map moment_of events) ≡ clock
clock-marks clock [] = refl
clock-marks clock (e ∷ events) = clock-marks clock events

pub reading-marks : (history : List Moment) (events : List Event) → clock_of (history ++ map moment_of events) ≡ clock_of history
reading-marks history events = clock-append 0 history (map moment_of events) ∙ clock-marks (clock_of history) events

-- a later moment becomes the clock
reading-later : (b : Bool) (clock at : ℕ) → nat_lt clock at ≡ b → fold clock_after clock (if b then Clock at ∷ [] else []) ≡ max clock at
reading-later true clock at e = grind (arith, nat_tests)
reading-later false clock at e = grind (arith, nat_tests)

pub reading-clocked : (history : List Moment) (clock at : ℕ) → clock ≡ clock_of history
    → max clock at ≡ clock_of (history ++ clock_moments clock at)
reading-clocked history clock at e =
    sym (reading-later (nat_lt clock at) clock at refl)
    ∙ (ap (λ c. fold clock_after c (clock_moments clock at)) e ∙ sym (clock-append 0 history (clock_moments clock at)))

abbrev step_by : {A : Type 0} → Bool → Machine → Input A → StepResult A
step_by b m input = if b then spent_step m else with_listeners m input.at (timed_step input.act (with_clock input.at m))

reads_by : {A : Type 0} (b : Bool) (m : Machine) (input : Input A) → m.clock ≡ clock_of m.history
    → (step_by b m input).machine.clock ≡ clock_of (step_by b m input).machine.history
reads_by true m input e = e
reads_by false m input e =
    let n : Machine = with_moves (fire_move (with_clock input.at m).clock) (with_clock input.at m) in
    reading-clocked m.history m.clock input.at e
    ∙ (sym (reading-marks (with_clock input.at m).history (events_after (fire_move (with_clock input.at m).clock) m.services))
    ∙ sym (reading-marks n.history (act_result input.act n).work.events))

pub step-reads : {A : Type 0} (m : Machine) (input : Input A) → m.clock ≡ clock_of m.history
    → (step m input).machine.clock ≡ clock_of (step m input).machine.history
step-reads m input e = reads_by (m.steps == step_limit) m input e
