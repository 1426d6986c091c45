-- What a truth value tells.
use Rattle.std.specs.Prelude.{ℕ, List, Bool, true, false}
use Rattle.tree_core.specs.declared.input.Input.{Input}
use Rattle.s6_script.specs.Spelling.{IsSpelt, Spells}

-- it is so, or it is not
abbrev pub Tells : Bool → Type 0 → Type 0
Tells true so = so
Tells false so = so → ⊥

-- the text spells the input, or the input has no spelling
abbrev pub SpellsIf : {A : Type 0} → Bool → List ℕ → Input A → Type 0
SpellsIf true text i = Spells text i
SpellsIf false text i = IsSpelt i → ⊥
