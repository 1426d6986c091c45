-- How lists are coded.
use Rattle.std.specs.Prelude.{ℕ, List, [], ◌∷◌, length, ⊤}
use Rattle.step_codes.specs.NumberCodes.{number_onto}

-- the codes of these items, one behind the other
abbrev pub items_onto : {X : Type 0} → (X → List ℕ → List ℕ) → List X → List ℕ → List ℕ
items_onto onto [] rest = rest
items_onto onto (x ∷ xs) rest = onto x (items_onto onto xs rest)

-- the items of a list stand behind their number
abbrev pub list_onto : {X : Type 0} → (X → List ℕ → List ℕ) → List X → List ℕ → List ℕ
list_onto onto xs rest = number_onto (length xs) (items_onto onto xs rest)

abbrev pub AllFit : {X : Type 0} → (X → Type 0) → List X → Type 0
AllFit fits [] = ⊤
AllFit fits (x ∷ xs) = fits x × AllFit fits xs
