-- A service has one life at a time.
use Rattle.std.specs.Prelude.{◌≡◌, ℕ, zero, suc, ◌+◌, List, [], ◌∷◌, ◌++◌, length, Bool, true, false, ◌||◌, ◌==◌}
use Rattle.std.specs.Prelude.{Option, Some}
use Rattle.std.specs.List.{flat_map, list_all, list_any}
use Rattle.s6_events.specs.declared.order.Order.{Order}
use Rattle.s6_events.specs.declared.order.Order.TheVariants.{Run}
use Rattle.supervise_core.specs.declared.change.Change.{Change}
use Rattle.s6_events.specs.declared.report.Report.TheVariants.{StartFailed, Death}
use Rattle.supervise_core.specs.declared.change.Change.TheVariants.{Report}
use Rattle.tree_core.specs.declared.input.Input.{Input}
use Rattle.tree_core.specs.Taken.{StepTaken, steps_taken, next_step, orders_in, change_in_step}

-- the generations of the runs that orders start
abbrev pub generation_of : Order → List ℕ
generation_of (Run sid generation name descriptor) = generation ∷ []
generation_of order = []

abbrev pub generations_of : List Order → List ℕ
generations_of orders = flat_map generation_of orders

-- the generations of the runs of a service in a step, and in these steps
abbrev pub generations_in : {A : Type 0} → ℕ → StepTaken A → List ℕ
generations_in sid t = generations_of (orders_in sid t)

abbrev pub generations_given : {A : Type 0} → ℕ → List (StepTaken A) → List ℕ
generations_given sid steps = flat_map (generations_in sid) steps

-- 1, 2, 3 and so on, this many
abbrev pub up_to : ℕ → List ℕ
up_to zero = []
up_to (suc n) = up_to n ++ suc n ∷ []

-- the service is told that the run before this generation is over: that it died, or could not be started
abbrev pub ends_before : ℕ → Option Change → Bool
ends_before generation (Some (Report (Death sid of exit))) = of + 1 == generation
ends_before generation (Some (Report (StartFailed sid of))) = of + 1 == generation
ends_before generation told = false

-- after these steps a run of this generation may come: it is the first one, or the one before it is over
abbrev pub may_come : {A : Type 0} → ℕ → List (StepTaken A) → ℕ → Bool
may_come sid steps generation = generation == 1 || list_any (λ t. ends_before generation (change_in_step sid t)) steps

-- so far the runs of the service had the generations 1, 2, 3 and so on, and one of the next step comes only once the one before it is over
pub record HasOneLife {A : Type 0} (inputs : List (Input A)) (input : Input A) (sid : ℕ) : Type 0 where
  pub counted : generations_given sid (steps_taken inputs) ≡ up_to (length (generations_given sid (steps_taken inputs)))
  pub after_another : list_all (may_come sid (steps_taken inputs ++ next_step inputs input ∷ []))
      (generations_in sid (next_step inputs input)) ≡ true
