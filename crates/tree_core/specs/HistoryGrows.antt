-- What a step adds to the history.
use Rattle.std.specs.Prelude.{◌≡◌, ◌++◌, ◌==◌, List, [], map, if◌then◌else◌}
use Rattle.s6_events.specs.declared.moment.Moment.{Moment}
use Rattle.svscan_core.specs.Moves.{moment_of}
use Rattle.tree_core.specs.declared.input.Input.{Input}
use Rattle.tree_core.specs.Machine.{Machine}
use Rattle.tree_core.specs.Run.{after, outcome}
use Rattle.tree_core.specs.Step.{clock_moments, step_limit}

-- the clock reading of a step: none where the moment is not later, and none of a spent machine
abbrev pub reading_of : {A : Type 0} → Machine → Input A → List Moment
reading_of m input = if m.steps == step_limit then [] else clock_moments m.clock input.at

-- the history is the one before, then the clock reading, if any, and then the marks that the step gives
abbrev pub GrowsHistory : {A : Type 0} → Machine → Input A → Type 0
GrowsHistory m input =
    (after m input).history ≡ m.history ++ reading_of m input ++ map moment_of (outcome m input).events
