use Rattle.std.proofs.Common.{◌∙◌, ◌+◌, ap, sym}
use Rattle.svscan_core.specs.Table.{charts_of}
use Rattle.tree_core.proofs.Naming.{more_named, more_serials}
use Rattle.tree_core.proofs.refusals.serials_of.Goals as goal

pub loop-name-preserved : goal.loop-name-preserved
loop-name-preserved g c = record {
  count = c.push.ensures.len ∙ ap (λ n. n + 1) c.loop-name.invariant.count;
  all = more_named c.args.names.now (charts_of c.args.registry.now.shown.services) c.loop-name.name-index c.name-item.result c.loop-name-test.true
      c.name-item.is c.in-Some.sid (sym c.find.ensures ∙ c.in-Some.is) c.loop-name.invariant.all;
  serials = c.push.ensures.items ∙ more_serials c.args.names.now
      (charts_of c.args.registry.now.shown.services) c.loop-name.name-index c.name-item.result c.loop-name-test.true c.name-item.is c.in-Some.sid
      (sym c.find.ensures ∙ c.in-Some.is) c.loop-name.sids.items c.loop-name.invariant.serials;
}
