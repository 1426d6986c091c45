use Rattle.std.proofs.Common.{◌≡◌, take, drop}
use Rattle.svscan_core.specs.Moving.{with_changes, KeepNames}
use Rattle.svscan_core.proofs.commit.adopt_all.Given as goal

abbrev pub invariant-loop-change : goal.invariant-loop-change
invariant-loop-change g l = record {
  services : l.slots.services ≡ with_changes l.fn.slots.services (take l.change-index l.touched);
  names : KeepNames l.slots.services (drop l.change-index l.touched);
  room : l.slots.room ≡ l.fn.slots.room;
}
