use Rattle.std.proofs.Common.{arith, IsTrue, subst, List, ℕ}
use Rattle.s6_events.specs.Name.{is_name}
use Rattle.s6_script.proofs.Items.{one_more, all_of_them}
use Rattle.s6_script.proofs.act_limits.are_named.Goals as goal

pub loop-name-preserved : goal.loop-name-preserved
loop-name-preserved c =
    one_more (λ name. IsTrue (is_name name)) c.args.names.now c.loop-name.name-index _ (omega arith) c.loop-name.invariant
    (subst (λ (name : List ℕ). IsTrue (is_name name)) c.name-item.is (rw c.if-not-is_named.false at c.is_named.ensures))

pub returns : goal.returns
returns c = all_of_them (λ name. IsTrue (is_name name)) c.args.names.now c.loop-name.name-index (omega arith) c.loop-name.invariant
