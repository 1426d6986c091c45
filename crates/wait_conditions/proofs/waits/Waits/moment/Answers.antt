use Rattle.std.proofs.lemmas.Result.{IfOk-weaker}
use Rattle.wait_conditions.specs.Stands.{waits_shown}
use Rattle.wait_conditions.proofs.Changing.{moment_after}
use Rattle.wait_conditions.proofs.waits.Waits.moment.Goals as goal

pub returns-clause-ok : goal.returns-clause-ok
returns-clause-ok g c = IfOk-weaker c.take_moment.result _ _ (λ released t.
    moment_after (waits_shown c.args.self.now) (waits_shown c.take_moment.new.self) c.args.moment.now released.items t.0 t.1)
    c.take_moment.ensures.ok
