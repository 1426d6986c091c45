-- Runs of which each goes on from the one before.
use Rattle.std.specs.Prelude.{◌≡◌, ⊤, List, [], ◌∷◌, flat_map}
use Rattle.tree_core.specs.Machine.{Machine}
use Rattle.tree_core.specs.StandsFor.{StoredTree, StandsFor}
use Rattle.run_records.specs.Runs.{RunStep, IsLegal, end_of}

-- a run that was closed: the tree with which it began, its steps, and the tree that it gave back
pub record ClosedRun : Type 0 where
  pub opening : StoredTree
  pub steps : List RunStep
  pub tree : StoredTree

-- its steps are a legal history from each machine for which its first tree stands, and its last tree stands for the end
abbrev pub IsLegalRun : ClosedRun → Type 0
IsLegalRun run = (m : Machine) → StandsFor run.opening m → IsLegal m run.steps × StandsFor run.tree (end_of m run.steps)

-- each was opened on the tree that the one before gave back, and the first on this one
abbrev pub AreChained : StoredTree → List ClosedRun → Type 0
AreChained tree [] = ⊤
AreChained tree (run ∷ runs) = (run.opening ≡ tree) × IsLegalRun run × AreChained run.tree runs

-- the steps of all of them, in order
abbrev pub chain_steps : List ClosedRun → List RunStep
chain_steps runs = flat_map (λ run. run.steps) runs

-- the tree that the last gave back, or this one where there is none
abbrev pub chain_end : StoredTree → List ClosedRun → StoredTree
chain_end tree [] = tree
chain_end tree (run ∷ runs) = chain_end run.tree runs

-- together they are one legal run from this tree
abbrev pub AreOneRun : StoredTree → List ClosedRun → Type 0
AreOneRun tree runs = IsLegalRun (record { opening = tree; steps = chain_steps runs; tree = chain_end tree runs })
