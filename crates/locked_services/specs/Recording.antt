-- The text of runs of which each goes on from the one before.
use Rattle.std.specs.Prelude.{ℕ, List, [], ◌∷◌, ◌++◌, map, true, false}
use Rattle.std.specs.List.{flat_map}
use Rattle.std.specs.declared.alloc.Global.{Global}
use Rattle.s6_script.specs.Script.{Recorded}
use Rattle.run_records.specs.RunText.{recorded_of, run_text}
use Rattle.locked_services.specs.Chain.{ClosedRun, chain_steps}

-- the head line and the text of the first run, and then the texts of the others
abbrev pub chain_text : List ClosedRun → List ℕ
chain_text [] = []
chain_text (run ∷ runs) = run_text true run.steps ++ flat_map (λ later. run_text false later.steps) runs

-- what a recorded script says of all their steps
abbrev pub chain_recorded : List ClosedRun → List (Recorded Global)
chain_recorded runs = map recorded_of (chain_steps runs)
