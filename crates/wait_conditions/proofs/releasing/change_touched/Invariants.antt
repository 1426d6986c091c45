use Rattle.std.proofs.Common.{◌≡◌, ◌≤◌, ◌++◌, All, take, drop, map, length}
use Rattle.s6_events.specs.Rising.{AreRising}
use Rattle.wait_conditions.specs.Kept.{with_moments}
use Rattle.wait_conditions.specs.WaitsFields.{IsCounted, waiters_view}
use Rattle.wait_conditions.specs.Watchers.{AreIndexed, serials_where, touched_by}
use Rattle.wait_conditions.proofs.releasing.change_touched.Given as goal

abbrev pub invariant-loop-id : goal.invariant-loop-id
invariant-loop-id g l = record {
  within : l.start ≤ length l.waiters;
  left : drop l.id-index l.touched ≡ serials_where (touched_by l.moments) (drop l.start (waiters_view l.fn.waiters));
  waiters : waiters_view l.waiters ≡ map (with_moments l.moments) (take l.start (waiters_view l.fn.waiters))
      ++ drop l.start (waiters_view l.fn.waiters);
  rising : AreRising (map (λ k. k.id) (waiters_view l.waiters));
  counted : All IsCounted l.waiters;
  indexed : AreIndexed l.watchers.watchers (waiters_view l.waiters);
  room : l.fn.watchers.spare_capacity ≤ l.watchers.spare_capacity;
}
