-- Which letters of svc leave a service down, so that a start of it is wanted no more.
use Rattle.std.specs.Prelude.{Bool, true, false, List, [], ◌∷◌}
use Rattle.control_letters.specs.declared.control_letter.ControlLetter.{ControlLetter}
use Rattle.control_letters.specs.declared.control_letter.ControlLetter.TheVariants.{Up, Down, Exit}

-- whether it is to be down after this letter, where it was so before or not
abbrev pub down_after : ControlLetter → Bool → Bool
down_after Up before = false
down_after Down before = true
down_after Exit before = true
down_after other before = before

-- and after several
abbrev pub down_after_all : List ControlLetter → Bool → Bool
down_after_all [] before = before
down_after_all (letter ∷ rest) before = down_after_all rest (down_after letter before)
