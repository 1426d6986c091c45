-- What the clock shows after some moments.
use Rattle.std.specs.Prelude.{ℕ, List, fold}
use Rattle.s6_events.specs.declared.moment.Moment.{Moment}
use Rattle.s6_events.specs.declared.moment.Moment.TheVariants.{Clock, Event}

-- a clock reading sets the clock, and a mark leaves it
abbrev pub clock_after : ℕ → Moment → ℕ
clock_after clock (Clock at) = at
clock_after clock (Event sid mark) = clock

-- the last clock reading among the moments, or 0
abbrev pub clock_of : List Moment → ℕ
clock_of moments = fold clock_after 0 moments
