use Rattle.std.proofs.Common.{arith, subst}
use Rattle.s6_script.specs.Options.{IsEntry}
use Rattle.s6_script.proofs.Items.{one_more, all_of_them}
use Rattle.s6_script.proofs.act_limits.are_entries.Goals as goal

pub loop-entry-preserved : goal.loop-entry-preserved
loop-entry-preserved c =
    one_more IsEntry c.args.entries.now c.loop-entry.entry-index _ (omega arith) c.loop-entry.invariant
    (subst IsEntry c.entry-item.is (rw c.if-not-is_entry.false at c.is_entry.ensures))

pub returns : goal.returns
returns c = all_of_them IsEntry c.args.entries.now c.loop-entry.entry-index (omega arith) c.loop-entry.invariant
