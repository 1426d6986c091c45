-- How the items of a list are changed.
use Rattle.std.specs.Prelude.{⊤, List, [], ◌∷◌}

-- the second list has what came of each item of the first, in the same order
abbrev pub ComeOf : {A B : Type 0} → (A → B → Type 0) → List A → List B → Type 0
ComeOf comes [] [] = ⊤
ComeOf comes (x ∷ xs) (y ∷ ys) = comes x y × ComeOf comes xs ys
ComeOf comes [] (y ∷ ys) = ⊥
ComeOf comes (x ∷ xs) [] = ⊥
