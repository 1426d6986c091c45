-- The shots of a run.
use Rattle.std.specs.Prelude.{◌≡◌, ℕ, ◌≤◌, List, [], ◌∷◌, ◌++◌, All, length, take, Option, Some, None, Bool, true}
use Rattle.status_board.specs.declared.shot.Shot.{Shot}
use Rattle.status_board.specs.Board.{last_shot, NeverFalls}
use Rattle.tree_core.specs.Machine.{Machine}
use Rattle.tree_core.specs.Rows.{all_rows}
use Rattle.tree_core.specs.StandsFor.{StoredTree, StandsFor}
use Rattle.run_records.specs.Runs.{RunStep, end_of}
use Rattle.locked_services.specs.Running.{RunningView, IsSoundRunning}

-- the status rows of a machine, and how many steps it has made
abbrev pub shot_of : Machine → Shot
shot_of m = record { at = m.steps; rows = record { items = all_rows m } }

-- the shot is that of the machine after the first n steps, for some n
abbrev pub IsShotOf : Machine → List RunStep → Shot → Type 0
IsShotOf m steps shot = (n : ℕ) × (n ≤ length steps) × (shot ≡ shot_of (end_of m (take n steps)))

-- the shot that was published first
abbrev pub first_shot : List Shot → Option Shot
first_shot [] = None
first_shot (shot ∷ shots) = Some shot

-- the new steps are the old ones and then n more
abbrev pub Grows : ℕ → List RunStep → List RunStep → Type 0
Grows n old new = (more : List RunStep) × (length more ≡ n) × (new ≡ old ++ more)

-- a running tree, what was published of it, and whether its present state was published last
pub record RoomView : Type 0 where
  pub running : RunningView
  pub shots : List Shot
  pub is_shown : Bool

-- the run began with this tree; the first shot is that of it, each shot is one of the run, none was taken after fewer steps than one before
-- it; and where `is_shown`, the last shot is that of the present state
pub record IsSoundRoom (opening : StoredTree) (v : RoomView) : Type 0 where
  pub begins : v.running.opening ≡ opening
  pub first : (m : Machine) → StandsFor v.running.opening m → first_shot v.shots ≡ Some (shot_of m)
  pub each : (m : Machine) → StandsFor v.running.opening m → All (IsShotOf m v.running.steps) v.shots
  pub rising : NeverFalls v.shots
  pub last : v.is_shown ≡ true → (m : Machine) → StandsFor v.running.opening m
      → last_shot v.shots ≡ Some (shot_of (end_of m v.running.steps))

-- all that is true of a room, whose run began with this tree, whenever its lock is free
pub record IsSoundHistory (opening : StoredTree) (v : RoomView) : Type 0 where
  pub running : IsSoundRunning v.running
  pub room : IsSoundRoom opening v
