use Rattle.std.proofs.Common.{◌≡◌, ◌≤◌, ◌-◌, true, false, take, length}
use Rattle.std.specs.Prelude.{nat_lt, slice_get, IfSome}
use Rattle.std.specs.List.{list_all}
use Rattle.deadlines.proofs.deadlines.place_of.Given as goal

abbrev pub invariant-loop-low : goal.invariant-loop-low
invariant-loop-low l = record {
  order : l.low ≤ l.high;
  bound : l.high ≤ length l.timers;
  before : list_all (λ t. nat_lt t.sid l.fn.sid) (take l.low l.timers) ≡ true;
  stop : IfSome (slice_get l.timers l.high) (λ t. nat_lt t.sid l.fn.sid ≡ false);
}

abbrev pub decreases-loop-low : goal.decreases-loop-low
decreases-loop-low l = l.high - l.low
