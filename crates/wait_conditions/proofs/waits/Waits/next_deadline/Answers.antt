use Rattle.std.proofs.Common.{◌∙◌}
use Rattle.wait_conditions.specs.Stands.{waits_shown}
use Rattle.wait_conditions.proofs.NextDeadline.{next_stored}
use Rattle.wait_conditions.proofs.waits.Waits.next_deadline.Goals as goal

pub returns : goal.returns
returns g c = λ w st. c.stored_deadline.ensures ∙ next_stored (waits_shown c.args.self.now) w st
