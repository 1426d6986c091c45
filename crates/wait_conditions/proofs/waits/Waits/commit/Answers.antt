use Rattle.wait_conditions.specs.Stands.{waits_shown}
use Rattle.wait_conditions.proofs.Oldest.{began_after}
use Rattle.wait_conditions.proofs.waits.Waits.commit.Goals as goal

pub returns-clause-began : goal.returns-clause-began
returns-clause-began g c = λ place h le. began_after c.args.plan (waits_shown c.args.self.now) (waits_shown c.make.new.self)
    c.make.ensures c.requires.place place h le
