use Rattle.std.proofs.Common.{◌∙◌, sym, ap}
use Rattle.std.proofs.lemmas.Result.{IfOk-weaker, IfErr-weaker}
use Rattle.wait_conditions.specs.Refusal.{add_refusal, fault_told}
use Rattle.wait_conditions.specs.Stands.{waits_shown}
use Rattle.wait_conditions.proofs.Changing.{makes_waiter}
use Rattle.wait_conditions.proofs.Named.{count_is}
use Rattle.wait_conditions.proofs.waits.Waits.add.Goals as goal

pub returns-clause-ok : goal.returns-clause-ok
returns-clause-ok g c = IfOk-weaker c.admit.result _ _
    (λ made t. makes_waiter (waits_shown c.args.self.now) (waits_shown c.admit.new.self) _ made.0 made.1 t) c.admit.ensures.ok

pub returns-clause-possible : goal.returns-clause-possible
returns-clause-possible g c =
    IfOk-weaker c.admit.result _ _ (λ made p w st. ap (λ n. add_refusal n c.args.sids.now) (sym (count_is (waits_shown c.args.self.now) w st)) ∙ p)
    c.admit.ensures.possible

pub returns-clause-fault : goal.returns-clause-fault
returns-clause-fault g c =
    IfErr-weaker c.admit.result _ _ (λ fault p w st. p
    ∙ ap (λ n. fault_told (add_refusal n c.args.sids.now)) (count_is (waits_shown c.args.self.now) w st)) c.admit.ensures.fault
