-- The last of a list of shots, and the steps after which it was taken.
use Rattle.std.proofs.Common.{◌≡◌, ℕ, ◌≤◌, List, [], ◌∷◌, ◌++◌, Option, Some, None, refl, arith, subst, sym, ap}
use mathlib.Core.List.{IsPrefix}
use Rattle.status_board.specs.declared.shot.Shot.{Shot}
use Rattle.status_board.specs.Board.{last_or, last_shot, steps_or, last_steps, RisesFrom, NeverFalls}

pub last_or_snoc : (other : Option Shot) (shots : List Shot) (shot : Shot) → last_or other (shots ++ shot ∷ []) ≡ Some shot
last_or_snoc other [] shot = refl
last_or_snoc other (first ∷ shots) shot = last_or_snoc (Some first) shots shot

-- the steps of the last shot, if there is one
abbrev steps_shown : Option Shot → ℕ
steps_shown None = 0
steps_shown (Some shot) = shot.at

steps_of_last : (other : Option Shot) (shots : List Shot) (shot : Shot) → last_or other shots ≡ Some shot
    → steps_or (steps_shown other) shots ≡ shot.at
steps_of_last other [] shot is = ap steps_shown is
steps_of_last other (first ∷ shots) shot is = steps_of_last (Some first) shots shot is

rises_to_last : (steps : ℕ) (shots : List Shot) → RisesFrom steps shots → steps ≤ steps_or steps shots
rises_to_last steps [] rises = omega arith
rises_to_last steps (shot ∷ shots) rises = let later = rises_to_last shot.at shots rises.1 in let now = rises.0 in omega (arith, later, now)

rises_on : (steps : ℕ) (shots more : List Shot) → RisesFrom steps (shots ++ more) → steps_or steps shots ≤ steps_or steps (shots ++ more)
rises_on steps [] more rises = rises_to_last steps more rises
rises_on steps (shot ∷ shots) more rises = rises_on shot.at shots more rises.1

-- of two beginnings of a list that never falls, the longer's last shot was taken after no fewer steps
pub never_falls : (known now : List Shot) (shot : Shot) → IsPrefix known now → last_shot now ≡ Some shot → NeverFalls now
    → last_steps known ≤ shot.at
never_falls known now shot begins is rises =
    subst (λ (n : ℕ). last_steps known ≤ n) (steps_of_last None now shot is)
    (subst (λ (all : List Shot). last_steps known ≤ last_steps all) begins.1
    (rises_on 0 known begins.0 (subst (λ (all : List Shot). NeverFalls all) (sym begins.1) rises)))
