-- Names in a list.
use Rattle.std.specs.Prelude.{ℕ, List, [], ◌∷◌, Bool, false, ◌||◌, bytes_eq}
use Rattle.std.specs.List.{list_any}

-- the name is in the list
abbrev pub lists : List (List ℕ) → List ℕ → Bool
lists names name = list_any (bytes_eq name) names

-- a name is in the list twice
abbrev pub repeats_name : List (List ℕ) → Bool
repeats_name [] = false
repeats_name (name ∷ names) = lists names name || repeats_name names
