-- The newest mark of some kinds. What is read of a service's past is read from such marks.
use Rattle.std.specs.Prelude.{ℕ, List, [], ◌∷◌, reverse, Bool, ◌==◌, Option, None, Some, if◌then◌else◌, find}
use Rattle.s6_events.specs.declared.mark.Mark.{Mark}
use Rattle.s6_events.specs.declared.moment.Moment.{Moment}
use Rattle.s6_events.specs.declared.moment.Moment.TheVariants.{Clock, Event}

-- a mark with its moment
abbrev pub Dated : Type 0
Dated = ℕ × Mark

-- the marks of a service in these moments, in order, each with what the clock shows then; before them it shows `clock`
abbrev pub dated_from : ℕ → ℕ → List Moment → List Dated
dated_from sid clock [] = []
dated_from sid clock (Clock at ∷ rest) = dated_from sid at rest
dated_from sid clock (Event of mark ∷ rest) =
    if of == sid then (clock, mark) ∷ dated_from sid clock rest else dated_from sid clock rest

-- the marks of a service in a history, each with its moment
abbrev pub dated_marks : ℕ → List Moment → List Dated
dated_marks sid history = dated_from sid 0 history

-- the newest of a service's marks that `wanted` takes, with its moment
abbrev pub newest : (Mark → Bool) → ℕ → List Moment → Option Dated
newest wanted sid history = find (λ dated. wanted dated.1) (reverse (dated_marks sid history))

-- a moment's mark, where it is one of that service
abbrev pub mark_of : ℕ → Moment → Option Mark
mark_of sid (Clock at) = None
mark_of sid (Event of mark) = if of == sid then Some mark else None

-- the newest wanted mark after one more mark at this moment, if there is one more
abbrev pub newer : (Mark → Bool) → ℕ → Option Mark → Option Dated → Option Dated
newer wanted at None old = old
newer wanted at (Some mark) old = if wanted mark then Some (at, mark) else old
