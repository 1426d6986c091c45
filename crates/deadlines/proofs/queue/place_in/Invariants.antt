use Rattle.std.proofs.Common.{◌≡◌, ◌≤◌, ◌-◌, true, false, take, length}
use Rattle.std.specs.Prelude.{slice_get, IfSome}
use Rattle.deadlines.specs.Queue.{is_before}
use Rattle.std.specs.List.{list_all}
use Rattle.deadlines.proofs.queue.place_in.Given as goal

abbrev pub invariant-loop-low : goal.invariant-loop-low
invariant-loop-low l = record {
  order : l.low ≤ l.high;
  bound : l.high ≤ length l.queue;
  before : list_all (λ t. is_before t l.fn.timer) (take l.low l.queue) ≡ true;
  stop : IfSome (slice_get l.queue l.high) (λ t. is_before t l.fn.timer ≡ false);
}

abbrev pub decreases-loop-low : goal.decreases-loop-low
decreases-loop-low l = l.high - l.low
