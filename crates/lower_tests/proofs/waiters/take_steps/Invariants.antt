use Rattle.std.proofs.Common.{◌≤◌, ◌+◌}
use Rattle.lower_tests.proofs.waiters.take_steps.Given as goal

abbrev pub invariant-loop-row : goal.invariant-loop-row
invariant-loop-row g l = l.waits.next ≤ l.row-index + 1
