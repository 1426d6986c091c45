-- A run over one input more.
use Rattle.std.proofs.Common.{◌≡◌, List, [], ◌∷◌, ◌++◌, refl, ap}
use Rattle.tree_core.specs.declared.input.Input.{Input}
use Rattle.tree_core.specs.Machine.{Machine, Outcome}
use Rattle.tree_core.specs.Run.{after, after_all, outcome, outcomes}

-- the machine after it
pub after_all_more : {A : Type 0} (m : Machine) (inputs : List (Input A)) (input : Input A)
    → after_all m (inputs ++ input ∷ []) ≡ after (after_all m inputs) input
after_all_more m [] input = refl
after_all_more m (first ∷ inputs) input = after_all_more (after m first) inputs input

-- what the inputs give
pub outcomes_more : {A : Type 0} (m : Machine) (inputs : List (Input A)) (input : Input A)
    → outcomes m (inputs ++ input ∷ []) ≡ outcomes m inputs ++ outcome (after_all m inputs) input ∷ []
outcomes_more m [] input = refl
outcomes_more {A} m (first ∷ inputs) input =
    ap (λ (given : List (Outcome A)). outcome m first ∷ given) (outcomes_more (after m first) inputs input)
