use Rattle.run_records.specs.Runs.{inputs_of}
use Rattle.locked_services.proofs.room.Room.step_one.Given as goal

-- all inputs that the run has done, the new one among them
abbrev pub ghosts-keep : goal.ghosts-keep
ghosts-keep g a = record { whole = inputs_of a.running.now.steps }
