use Rattle.std.proofs.Common.{◌≡◌, ◌+◌, ◌≤◌, take, length}
use Rattle.deadlines.specs.Timers.{with_timer_changes}
use Rattle.deadlines.proofs.deadlines.Deadlines.commit.Given as goal

abbrev pub invariant-loop-change : goal.invariant-loop-change
invariant-loop-change g l = record {
  timers : l.self.timers ≡ with_timer_changes (take l.change-index l.fn.plan) l.fn.self.timers;
  room : length l.fn.plan ≤ l.self.spare_capacity + l.change-index;
}
