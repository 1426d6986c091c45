-- What a step that is kept tells of it.
use Rattle.std.specs.Prelude.{◌≡◌, ℕ, List}
use Rattle.run_records.specs.declared.step_log.Stored.{Stored}
use Rattle.run_records.specs.declared.step_log.Stored.TheVariants.{Coded, Whole}
use Rattle.run_records.specs.Runs.{RunStep}
use Rattle.step_codes.specs.StepCodes.{step_onto, FitsStep}

abbrev pub IsStored : RunStep → Stored → Type 0
IsStored s (Coded code) = (rest : List ℕ) × (code ≡ step_onto s.input s.outcome rest) × FitsStep s.input s.outcome
IsStored s (Whole kept) = (kept.now.input ≡ s.input) × (kept.now.reply ≡ s.outcome.reply)
