use Rattle.std.proofs.Common.{◌≡◌, take}
use Rattle.wait_conditions.specs.Counts.{counts_of}
use Rattle.wait_conditions.proofs.counts.count_all.Given as goal

abbrev pub invariant-loop-service : goal.invariant-loop-service
invariant-loop-service l = record {
  counted : l.counts ≡ counts_of (take l.service-index l.watched);
}
