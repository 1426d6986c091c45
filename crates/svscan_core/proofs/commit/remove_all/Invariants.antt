use Rattle.std.proofs.Common.{◌≡◌, ◌≤◌, take}
use Rattle.svscan_core.specs.Scanning.{without_names}
use Rattle.svscan_core.proofs.commit.remove_all.Given as goal

abbrev pub invariant-loop-name : goal.invariant-loop-name
invariant-loop-name g l = record {
  services : l.slots.services ≡ without_names l.fn.slots.services (take l.name-index l.names);
  room : l.fn.slots.room ≤ l.slots.room;
}
