-- A step adds its clock reading and its marks to the history.
use Rattle.std.proofs.Common.{◌≡◌, List, [], ◌∷◌, ◌++◌, Bool, true, false, sym, ap, ◌∙◌, map, append-nil}
use Rattle.std.specs.Prelude.{◌==◌, if◌then◌else◌}
use Rattle.std.proofs.lemmas.List.{map-append}
use Rattle.supervise_core.specs.Chart.{fire_move}
use Rattle.svscan_core.specs.Moves.{moment_of, events_after}
use Rattle.tree_core.specs.declared.input.Input.{Input}
use Rattle.tree_core.specs.Acts.{act_result}
use Rattle.tree_core.specs.HistoryGrows.{GrowsHistory}
use Rattle.tree_core.specs.Machine.{Machine}
use Rattle.tree_core.specs.Step.{StepResult, clock_moments, spent_step, step_limit, timed_step, with_clock, with_listeners, with_moves}

joined : {X Y : Type 0} (f : X → Y) (before reading : List Y) (first second : List X)
    → ((before ++ reading) ++ map f first) ++ map f second ≡ before ++ reading ++ map f (first ++ second)
joined f [] [] first second = sym (map-append f first second)
joined f [] (y ∷ reading) first second = ap (λ ys. y ∷ ys) (joined f [] reading first second)
joined f (y ∷ before) reading first second = ap (λ ys. y ∷ ys) (joined f before reading first second)

abbrev step_by : {A : Type 0} → Bool → Machine → Input A → StepResult A
step_by b m input = if b then spent_step m else with_listeners m input.at (timed_step input.act (with_clock input.at m))

grows_by : {A : Type 0} (b : Bool) (m : Machine) (input : Input A)
    → (step_by b m input).machine.history
    ≡ m.history ++ (if b then [] else clock_moments m.clock input.at) ++ map moment_of (step_by b m input).outcome.events
grows_by true m input = sym (append-nil (m.history ++ []) ∙ append-nil m.history)
grows_by false m input =
    let clocked : Machine = with_clock input.at m in
    let timed : Machine = with_moves (fire_move clocked.clock) clocked in
    joined moment_of m.history (clock_moments m.clock input.at) (events_after (fire_move clocked.clock) m.services)
    (act_result input.act timed).work.events

pub grows : {A : Type 0} (m : Machine) (input : Input A) → GrowsHistory m input
grows m input = grows_by (m.steps == step_limit) m input
