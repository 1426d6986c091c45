-- What the passes of a history know.
use Rattle.std.specs.Prelude.{◌≡◌, ℕ, List, [], true, false}
use mathlib.Core.Option.{some}
use mathlib.Core.List.{IsPrefix}
use lib.ListN.{get_elem?}
use Rattle.run_history.specs.declared.history.View.{View}
use Rattle.std.specs.declared.alloc.Global.{Global}
use Rattle.tree_core.specs.declared.input.Input.{Input}

-- the pass that knows all inputs; and one that knows nothing
abbrev pub knower : List (Input Global) → View
knower all = record { keeps = true; all = all; claim = [] }

abbrev pub nobody : View
nobody = record { keeps = false; all = []; claim = [] }

-- all inputs, as a known history claims them
abbrev pub claim_of : View → View
claim_of v = record { keeps = false; all = []; claim = v.all }

-- the pass of the whole history with a claim to compare
abbrev pub shown : View → View → View
shown v w = record { keeps = v.keeps; all = v.all; claim = w.claim }

-- at most one pass knows all inputs, and each claim is a beginning of them
abbrev pub Kept : List ℕ → List View → Type 0
Kept words views =
    (seat : ℕ) × (log : List (Input Global))
    × ((by : ℕ) (v : View) → get_elem? views by ≡ some v → (v.keeps ≡ true → (by ≡ seat) × (v.all ≡ log)) × IsPrefix v.claim log)

-- inputs are added, after which `whole` is all of them
abbrev pub Extended : List (Input Global) → View → List ℕ → List ℕ → View → Type 0
Extended whole v before after w = w ≡ record { keeps = v.keeps; all = whole; claim = v.claim }

-- a claim is compared with all inputs, and is gone again
abbrev pub Checked : View → List ℕ → List ℕ → View → Type 0
Checked v before after w = (w ≡ knower v.all) × IsPrefix v.claim v.all
