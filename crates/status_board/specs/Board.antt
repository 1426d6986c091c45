-- Lists of published shots, oldest first.
use Rattle.std.specs.Prelude.{ℕ, ◌≤◌, List, [], ◌∷◌, Option, Some, None, length, nat_le, if◌then◌else◌}
use Rattle.status_board.specs.declared.shot.Shot.{Shot}

abbrev pub last_or : Option Shot → List Shot → Option Shot
last_or other [] = other
last_or other (shot ∷ shots) = last_or (Some shot) shots

-- the shot that was published last
abbrev pub last_shot : List Shot → Option Shot
last_shot shots = last_or None shots

-- what a reader that knows some shots gets where others are shown: the last one shown, unless fewer are shown than it knows
abbrev pub shot_unless_older : List Shot → List Shot → Option Shot
shot_unless_older known shown = if nat_le (length known) (length shown) then last_shot shown else None

abbrev pub steps_or : ℕ → List Shot → ℕ
steps_or other [] = other
steps_or other (shot ∷ shots) = steps_or shot.at shots

-- after how many steps the last shot was taken; 0 where there is none
abbrev pub last_steps : List Shot → ℕ
last_steps shots = steps_or 0 shots

abbrev pub RisesFrom : ℕ → List Shot → Type 0
RisesFrom steps [] = Unit {0}
RisesFrom steps (shot ∷ shots) = (steps ≤ shot.at) × RisesFrom shot.at shots

-- no shot was taken after fewer steps than one before it
abbrev pub NeverFalls : List Shot → Type 0
NeverFalls shots = RisesFrom 0 shots
