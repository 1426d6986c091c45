-- The intervals of a lane, in tenths of a pixel.
use Rattle.std.specs.Prelude.{◌≡◌, ℕ, ◌-◌, ◌*◌, ◌/◌, ◌<◌, ◌≤◌, List, [], ◌∷◌, ◌++◌, nat_le, nat_lt, min, max, if◌then◌else◌}
use Rattle.run_stories.specs.declared.intervals.Interval.{Interval}
use Rattle.run_stories.specs.declared.lanes.ShadeChange.{ShadeChange}
use Rattle.run_stories.specs.declared.scale.Scale.{Scale}
use Rattle.run_stories.specs.declared.shade.Shade.{Shade}

-- the place of a moment, in a width of 10,000 that stands for the time from the first moment to the last
abbrev pub place_of : Scale → ℕ → ℕ
place_of scale at = min ((at - scale.first) * 10000 / max (scale.last - scale.first) 1) 10000

-- what is shown at a place: the shade of the last change up to there, or this shade where there is no such change
abbrev pub shown_at : Scale → Shade → List ShadeChange → ℕ → Shade
shown_at scale shade [] place = shade
shown_at scale shade (change ∷ more) place =
    if nat_le (place_of scale change.at) place then shown_at scale change.shade more place else shade

-- one interval more, unless it would be empty
abbrev pub with_interval : List Interval → ℕ → ℕ → Shade → List Interval
with_interval intervals from to shade =
    if nat_lt from to then intervals ++ (record { from = from; to = to; shade = shade }) ∷ [] else intervals

-- the intervals fill all places from `from` to `to`: each begins where the one before it ends, none is empty, and each has, for each of its
-- places, the shade that is shown there
abbrev pub Fill : (ℕ → Shade) → ℕ → List Interval → ℕ → Type 0
Fill shown from [] to = from ≡ to
Fill shown from (one ∷ more) to =
    (one.from ≡ from) × (one.from < one.to) × ((place : ℕ) → one.from ≤ place → place < one.to → one.shade ≡ shown place)
    × Fill shown one.to more to
