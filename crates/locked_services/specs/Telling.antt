-- What is told of one step.
use Rattle.std.specs.Prelude.{◌≡◌, ℕ, List, Option, None, Some}
use Rattle.std.specs.declared.alloc.Global.{Global}
use Rattle.tree_core.specs.Machine.{Outcome}
use Rattle.run_records.specs.Runs.{RunStep, actor_at, moment_at, outcome_at}

-- whose input the step of this number took, from 1, when that was handed in, and what it gave; where there is no such step, nothing is told
abbrev pub IsStepOf : Option (ℕ × ℕ) → Outcome Global → ℕ → List RunStep → Type 0
IsStepOf None o n steps = outcome_at n steps ≡ None
IsStepOf (Some (actor, at)) o n steps =
    (outcome_at n steps ≡ Some o) × (actor_at n steps ≡ Some actor) × (moment_at n steps ≡ Some at)
