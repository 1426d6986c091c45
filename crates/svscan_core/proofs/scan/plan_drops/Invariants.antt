use Rattle.std.proofs.Common.{◌≡◌}
use Rattle.svscan_core.specs.Moving.{with_changes}
use Rattle.svscan_core.specs.Table.{charts_of}
use Rattle.svscan_core.proofs.Dropping.{Planned}
use Rattle.svscan_core.proofs.scan.plan_drops.Given as goal

abbrev pub invariant-loop-place : goal.invariant-loop-place
invariant-loop-place g l = record {
  planned : Planned (charts_of (with_changes l.slots.services l.touched)) l.place l.fn.scan.dropped.items l.scan.dropped.items
      l.fn.scan.dropped_sids.items l.scan.dropped_sids.items l.retained;
  added : l.scan.added.items ≡ l.fn.scan.added.items;
  listed : l.scan.listed.items ≡ l.fn.scan.listed.items;
  next_sid : l.scan.next_sid ≡ l.fn.scan.next_sid;
}
