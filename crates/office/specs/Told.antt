-- What an office tells of its run.
use Rattle.std.specs.Prelude.{◌≡◌, ℕ, ◌≤◌, List, ◌++◌, length, None}
use Rattle.std.specs.declared.alloc.Global.{Global}
use Rattle.tree_core.specs.declared.input.Input.{Input}
use Rattle.tree_core.specs.StandsFor.{StoredTree}
use Rattle.run_records.specs.Runs.{inputs_of}
use Rattle.order_lanes.specs.Lane.{HaveRoom, IsBlocked}
use Rattle.tree_core.specs.Limits.{order_limit}
use Rattle.locked_services.specs.Running.{RunningView, run_limit}
use Rattle.locked_services.specs.Shots.{RoomView, IsSoundHistory}
use Rattle.locked_services.specs.Submissions.{NoneSeen}
use Rattle.locked_services.specs.declared.stop.DriveStop.{DriveStop}
use Rattle.locked_services.specs.declared.stop.DriveStop.TheVariants as ended

-- `says` is true of a room whose run began with this tree and has done just these inputs
abbrev pub IsTold : StoredTree → List (Input Global) → (RoomView → Type 0) → Type 0
IsTold opening inputs says = (v : RoomView) × IsSoundHistory opening v × (inputs_of v.running.steps ≡ inputs) × says v

-- the inputs after are those before and then n more
abbrev pub AddsInputs : ℕ → List (Input Global) → List (Input Global) → Type 0
AddsInputs n before after = (more : List (Input Global)) × (length more ≡ n) × (after ≡ before ++ more)

-- why a drive ended, in a run as the drive left it: a lane is blocked, the run has all steps that it may have, or no input is left
abbrev pub Stops : DriveStop → RunningView → Type 0
Stops stop running =
    ((k : ℕ) → stop ≡ ended.Blocked k → IsBlocked order_limit k running.lanes)
    × (stop ≡ ended.RunFull → run_limit ≤ length running.steps)
    × (stop ≡ ended.Idle → (running.held ≡ None) × NoneSeen running.drains × HaveRoom order_limit running.lanes)
