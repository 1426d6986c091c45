use Rattle.std.proofs.Common.{◌≡◌, ◌+◌}
use Rattle.lower_tests.proofs.waiters.add_some.Given as goal

abbrev pub invariant-loop : goal.invariant-loop
invariant-loop g l = l.waits.next ≡ l.counter + 1
