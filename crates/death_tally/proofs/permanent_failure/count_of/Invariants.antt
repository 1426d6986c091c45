use Rattle.std.proofs.Common.{◌≡◌, ◌≤◌, take, length, filter}
use Rattle.death_tally.specs.PermanentFailure.{is_counted}
use Rattle.death_tally.proofs.permanent_failure.count_of.Given as goal

abbrev pub invariant-loop-death : goal.invariant-loop-death
invariant-loop-death l = record {
  found : l.count ≡ length (filter (is_counted l.now l.seconds l.list) (take l.death-index l.deaths));
  few : l.count ≤ l.death-index;
}
