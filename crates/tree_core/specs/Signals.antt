-- A signal goes to a run that is there.
use Rattle.std.specs.Prelude.{◌≡◌, ℕ, List, [], ◌∷◌, ◌++◌, Bool, true, false, not, ◌&&◌, ◌==◌, Option, Some}
use Rattle.std.specs.List.{flat_map, list_all, list_any}
use Rattle.s6_events.specs.declared.order.Order.{Order}
use Rattle.s6_events.specs.declared.order.Order.TheVariants.{Signal}
use Rattle.supervise_core.specs.declared.change.Change.{Change}
use Rattle.s6_events.specs.declared.report.Report.TheVariants.{Started, Death}
use Rattle.supervise_core.specs.declared.change.Change.TheVariants.{Report}
use Rattle.tree_core.specs.declared.input.Input.{Input}
use Rattle.tree_core.specs.Taken.{StepTaken, steps_taken, next_step, orders_in, change_in_step}

-- the generations of the runs to which orders send a signal
abbrev pub signal_generations : Order → List ℕ
signal_generations (Signal sid generation number) = generation ∷ []
signal_generations order = []

abbrev pub signals_in : {A : Type 0} → ℕ → StepTaken A → List ℕ
signals_in sid t = flat_map signal_generations (orders_in sid t)

-- the service is told of the start, or the death, of the run of this generation
abbrev pub is_start_of : ℕ → Option Change → Bool
is_start_of generation (Some (Report (Started sid of pid))) = of == generation
is_start_of generation told = false

abbrev pub is_death_of : ℕ → Option Change → Bool
is_death_of generation (Some (Report (Death sid of exit))) = of == generation
is_death_of generation told = false

-- the start, or the death, of this run was reported in one of these steps
abbrev pub has_started : {A : Type 0} → ℕ → List (StepTaken A) → ℕ → Bool
has_started sid steps generation = list_any (λ t. is_start_of generation (change_in_step sid t)) steps

abbrev pub has_died : {A : Type 0} → ℕ → List (StepTaken A) → ℕ → Bool
has_died sid steps generation = list_any (λ t. is_death_of generation (change_in_step sid t)) steps

-- the start of this run was reported in this step or before, and its death not before this step
abbrev pub is_run_there : {A : Type 0} → ℕ → List (StepTaken A) → StepTaken A → ℕ → Bool
is_run_there sid earlier t generation =
    has_started sid (earlier ++ t ∷ []) generation && not (has_died sid earlier generation)

-- each signal of the next step goes to a run that is there
abbrev pub SignalsWhatIsThere : {A : Type 0} → List (Input A) → Input A → ℕ → Type 0
SignalsWhatIsThere inputs input sid =
    list_all (is_run_there sid (steps_taken inputs) (next_step inputs input)) (signals_in sid (next_step inputs input))
    ≡ true
