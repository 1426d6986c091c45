use Rattle.std.proofs.Common.{◌∙◌}
use Rattle.std.proofs.lemmas.Result.{IfOk-weaker}
use Rattle.wait_conditions.specs.Stands.{waits_shown}
use Rattle.wait_conditions.specs.States.{state_in}
use Rattle.wait_conditions.proofs.Stepping.{releases_are, stands_by}
use Rattle.wait_conditions.proofs.waits.Waits.prepare.Goals as goal

pub returns-clause-released : goal.returns-clause-released
returns-clause-released g c = IfOk-weaker c.prepare_stored.result _ _ (λ plan p w st. p
    ∙ releases_are c.args.moments.now (state_in c.args.self.now.states) c.args.self.now.count c.args.self.now.waiters w
    (stands_by (waits_shown c.args.self.now) w st)) c.prepare_stored.ensures.released
