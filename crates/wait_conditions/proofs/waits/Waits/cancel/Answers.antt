use Rattle.wait_conditions.specs.Stands.{waits_shown}
use Rattle.wait_conditions.proofs.Named.{cancels_after}
use Rattle.wait_conditions.proofs.waits.Waits.cancel.Goals as goal

pub returns-clause-after : goal.returns-clause-after
returns-clause-after g c w st = cancels_after (waits_shown c.args.self.now)
    (waits_shown c.take_out.new.self) c.args.id c.take_out.ensures w st
