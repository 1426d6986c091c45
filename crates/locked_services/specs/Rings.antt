-- What steps take from the rings.
use Rattle.std.specs.Prelude.{◌≡◌, ℕ, ◌+◌, ◌≤◌, List, [], length, Option, None, IsSome, option_to_list}
use Rattle.std.specs.declared.alloc.Global.{Global}
use Rattle.tree_core.specs.declared.input.Input.{Input}
use Rattle.locked_services.specs.Running.{RunningView}
use Rattle.locked_services.specs.Submissions.{Give}
use Rattle.locked_services.specs.declared.stop.DriveStop.{DriveStop}
use Rattle.locked_services.specs.declared.stop.DriveStop.TheVariants as drive
use Rattle.locked_services.specs.declared.stop.Stop.{Stop}
use Rattle.locked_services.specs.declared.stop.Stop.TheVariants as stop

-- the rings gave at most one input, and none where one was held
pub record GiveOne (old new : RunningView) : Type 0 where
  pub given : Option (Input Global)
  pub gives : Give (option_to_list given) old.drains new.drains
  pub held : IsSome old.held → given ≡ None

-- the rings, and the input that was held, are as they were
abbrev pub TakesNothing : RunningView → RunningView → Type 0
TakesNothing old new = (new.drains ≡ old.drains) × (new.held ≡ old.held)

-- where the run is full or a lane blocked, nothing was taken; where there was no input, the rings gave none; else they gave at most one
abbrev pub TakesBy : Stop → RunningView → RunningView → Type 0
TakesBy stop.RunFull old new = TakesNothing old new
TakesBy (stop.Blocked lane) old new = TakesNothing old new
TakesBy stop.Idle old new = Give [] old.drains new.drains
TakesBy stop.Done old new = GiveOne old new
TakesBy stop.NoMemory old new = GiveOne old new

-- how many inputs a drive of so many steps may take: one for each step, and one more where it ended because memory was refused
abbrev pub most_taken : DriveStop → ℕ → ℕ
most_taken drive.NoMemory steps = steps + 1
most_taken end steps = steps

-- at most `most` inputs were taken
pub record TakeMost (most : ℕ) (old new : RunningView) : Type 0 where
  pub given : List (Input Global)
  pub gives : Give given old.drains new.drains
  pub few : length given ≤ most
