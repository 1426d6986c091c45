-- The steps of a log: most of them in bytes, the others whole.
use Rattle.std.specs.Prelude.{◌≡◌, ℕ, ◌<◌, ◌≤◌, List, [], ◌++◌, drop, length, slice_get, Option, Some, None}
use Rattle.run_records.specs.declared.step_log.StepStart.{StepStart}
use Rattle.run_records.specs.declared.step_log.StepStart.TheVariants.{Coded, Whole}
use Rattle.run_records.specs.Runs.{RunStep}
use Rattle.step_codes.specs.ReadingSteps.{step_in}
use Rattle.step_codes.specs.StepCodes.{step_onto, FitsStep}

-- the step whose code these bytes begin with
abbrev pub step_coded : List ℕ → RunStep
step_coded bytes = record { input = (step_in bytes).0.0; outcome = (step_in bytes).0.1 }

abbrev pub step_or : Option RunStep → RunStep
step_or None = step_coded []
step_or (Some s) = s

-- the step of a start, of these codes and these whole steps
abbrev pub step_at : List ℕ → List RunStep → StepStart → RunStep
step_at codes whole (Coded start) = step_coded (drop start codes)
step_at codes whole (Whole place) = step_or (slice_get whole place)

-- from here on these bytes are the code of a step, and then others
pub record IsCode (codes : List ℕ) (start : ℕ) : Type 0 where
  pub step : RunStep
  pub code : List ℕ
  pub rest : List ℕ
  pub low : start ≤ length codes
  pub cut : drop start codes ≡ code ++ rest
  pub onto : (more : List ℕ) → code ++ more ≡ step_onto step.input step.outcome more
  pub fits : FitsStep step.input step.outcome

abbrev pub IsThere : List ℕ → List RunStep → StepStart → Type 0
IsThere codes whole (Coded start) = IsCode codes start
IsThere codes whole (Whole place) = place < length whole
