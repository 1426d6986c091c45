-- A list of moments of which the first ones may be forgotten.
use Rattle.std.specs.Prelude.{ℕ, ◌+◌, ◌-◌, List, length, drop, Option, Some, None, if◌then◌else◌, nat_le, ◌&&◌, max, min}
use Rattle.s6_events.specs.declared.moment.Moment.{Moment}

-- how many of the first moments are forgotten, those after them, and how many more fit without more memory
pub record Recorded : Type 0 where
  pub forgotten : ℕ
  pub kept : List Moment
  pub spare_capacity : ℕ

-- the place after the last moment
abbrev pub end_of : Recorded → ℕ
end_of h = h.forgotten + length h.kept

-- the moments from a place on, where none of them is forgotten and the place is not past the end
abbrev pub from_place : Recorded → ℕ → Option (List Moment)
from_place h place = if nat_le h.forgotten place && nat_le place (end_of h)
    then Some (drop (place - h.forgotten) h.kept) else None

-- how many moments are forgotten once those before a place are forgotten too, or all where the place is past the end
abbrev pub forgotten_by : Recorded → ℕ → ℕ
forgotten_by h place = max h.forgotten (min place (end_of h))
