use Rattle.std.proofs.Common.{subst}
use Rattle.locked_services.specs.Running.{RunningView, IsSoundRunning}
use Rattle.locked_services.proofs.running.RunningTree.steps.Goals as goal

pub returns-clause-sound : goal.returns-clause-sound
returns-clause-sound g c = subst (λ (v : RunningView). IsSoundRunning v) c.self.view_is c.self.invariant
