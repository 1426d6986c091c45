use Rattle.std.proofs.Common.{◌≡◌, ◌≤◌, length}
use Rattle.locked_services.specs.Rings.{TakeMost}
use Rattle.locked_services.specs.Running.{run_limit}
use Rattle.locked_services.specs.Shots.{Grows}
use Rattle.locked_services.proofs.running.RunningTree.step_many.Given as goal

abbrev pub invariant-loop-steps : goal.invariant-loop-steps
invariant-loop-steps g l = record {
  opening : l.self.opening ≡ l.initial.self.opening;
  made : Grows l.steps l.initial.self.steps l.self.steps;
  taken : TakeMost l.steps l.initial.self l.self;
  full : run_limit ≤ length l.initial.self.steps → l.steps ≡ 0;
}
