-- The last deaths of a service.
use Rattle.std.specs.Prelude.{◌≡◌, ℕ, ◌-◌, List, [], ◌∷◌, ◌++◌, length, drop}
use Rattle.s6_events.specs.declared.exit.Exit.{Exit}

-- the newest of these deaths, at most `most`, oldest first
abbrev pub last_deaths : ℕ → List (ℕ × Exit) → List (ℕ × Exit)
last_deaths most deaths = drop (length deaths - most) deaths

-- what a tally has: deaths, each with its moment, and how many it has at most
pub record Deaths : Type 0 where
  pub kept : List (ℕ × Exit)
  pub most : ℕ

-- the tally has the last of all these deaths
abbrev pub Tallies : Deaths → List (ℕ × Exit) → Type 0
Tallies t all = t.kept ≡ last_deaths t.most all

-- a tally without a death
abbrev pub new_tally : ℕ → Deaths
new_tally most = record { kept = []; most = most }

-- the tally with one death more
abbrev pub with_death : Deaths → ℕ × Exit → Deaths
with_death t death = record t { kept = last_deaths t.most (t.kept ++ death ∷ []) }
