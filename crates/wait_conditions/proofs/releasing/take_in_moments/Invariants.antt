use Rattle.std.proofs.Common.{◌≡◌, drop}
use Rattle.wait_conditions.specs.WaitsFields.{IsCounted}
use Rattle.wait_conditions.specs.Kept.{waiter_view, with_moments}
use Rattle.wait_conditions.proofs.releasing.take_in_moments.Given as goal

abbrev pub invariant-loop-moment : goal.invariant-loop-moment
invariant-loop-moment l = record {
  counted : IsCounted l.waiter;
  same : with_moments l.moments (waiter_view l.fn.waiter) ≡ with_moments (drop l.moment-index l.moments) (waiter_view l.waiter);
}
