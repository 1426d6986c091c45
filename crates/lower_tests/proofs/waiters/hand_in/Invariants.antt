use Rattle.std.proofs.Common.{◌≡◌}
use Rattle.lower_tests.proofs.waiters.hand_in.Given as goal

abbrev pub invariant-loop-moment : goal.invariant-loop-moment
invariant-loop-moment g l = l.waits.next ≡ l.fn.waits.next
