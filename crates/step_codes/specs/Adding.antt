-- What a code was added to.
use Rattle.std.specs.Prelude.{◌≡◌, ℕ, List, ◌++◌}

-- behind what stood before now stands this code: `onto` puts it before any other bytes
abbrev pub Adds : List ℕ → List ℕ → (List ℕ → List ℕ) → Type 0
Adds before after onto = (rest : List ℕ) → after ++ rest ≡ before ++ onto rest
