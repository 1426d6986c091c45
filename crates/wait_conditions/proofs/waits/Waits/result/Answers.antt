use Rattle.std.proofs.Common.{◌∙◌}
use Rattle.wait_conditions.specs.Stands.{waits_shown}
use Rattle.wait_conditions.proofs.Named.{result_is}
use Rattle.wait_conditions.proofs.waits.Waits.result.Goals as goal

pub returns : goal.returns
returns g c w st = c.stored_result.ensures ∙ result_is (waits_shown c.args.self.now) c.args.id w st
