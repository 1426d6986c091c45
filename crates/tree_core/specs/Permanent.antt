-- After a permanent failure a service is not started again by itself.
use Rattle.std.specs.Prelude.{◌≡◌, ℕ, List, [], ◌∷◌, ◌++◌, Bool, true, false, ◌||◌, if◌then◌else◌, fold, Option, Some}
use Rattle.std.specs.List.{list_any}
use Rattle.s6_events.specs.declared.mark.Mark.{Mark}
use Rattle.s6_events.specs.declared.mark.Mark.TheVariants.{SupervisorStarted, PermanentFailure}
use Rattle.control_letters.specs.declared.control_letter.ControlLetter.{ControlLetter}
use Rattle.control_letters.specs.declared.control_letter.ControlLetter.TheVariants.{Up}
use Rattle.supervise_core.specs.declared.change.Change.{Change}
use Rattle.supervise_core.specs.declared.change.Change.TheVariants.{Control}
use Rattle.tree_core.specs.declared.input.Input.{Input}
use Rattle.tree_core.specs.Closing.{is_run}
use Rattle.tree_core.specs.Taken.{StepTaken, steps_taken, next_step, marks_in, orders_in, change_in_step}

-- the marks O and s
abbrev pub is_failure_mark : Mark → Bool
is_failure_mark PermanentFailure = true
is_failure_mark mark = false

abbrev pub tells_start : Mark → Bool
tells_start SupervisorStarted = true
tells_start mark = false

-- a letter u among those that the service is told
abbrev pub is_up_letter : ControlLetter → Bool
is_up_letter Up = true
is_up_letter letter = false

abbrev pub wants_up : Option Change → Bool
wants_up (Some (Control letters)) = list_any is_up_letter letters.items
wants_up told = false

-- the step has a letter u for the service, or an s of it
abbrev pub frees : {A : Type 0} → ℕ → StepTaken A → Bool
frees sid t = wants_up (change_in_step sid t) || list_any tells_start (marks_in sid t)

-- after one more step: an O came, and since then no step with a letter u for the service or an s of it
abbrev pub fails_on : {A : Type 0} → ℕ → Bool → StepTaken A → Bool
fails_on sid failed t = if frees sid t then false else failed || list_any is_failure_mark (marks_in sid t)

abbrev pub has_failed_for_good : {A : Type 0} → ℕ → List (StepTaken A) → Bool
has_failed_for_good sid steps = fold (fails_on sid) false steps

-- where the service has failed for good by the end of the next step, that step starts no run of it
abbrev pub RestsAfterFailure : {A : Type 0} → List (Input A) → Input A → ℕ → Type 0
RestsAfterFailure inputs input sid =
    has_failed_for_good sid (steps_taken inputs ++ next_step inputs input ∷ []) ≡ true
    → list_any is_run (orders_in sid (next_step inputs input)) ≡ false
