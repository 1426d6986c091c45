use Rattle.std.proofs.Common.{◌≡◌, ◌≤◌, ◌+◌, ◌++◌, All, map, take, drop, vec_len, vec_capacity}
use Rattle.std.specs.List.{filter_map}
use Rattle.wait_conditions.specs.WaitsFields.{IsCounted}
use Rattle.wait_conditions.specs.Kept.{waiter_view, with_moment, release_seen}
use Rattle.wait_conditions.proofs.releasing.take_in_all.Given as goal

abbrev pub invariant-loop-i : goal.invariant-loop-i
invariant-loop-i g l = record {
  counted : All IsCounted l.waiters;
  waiters : map waiter_view l.waiters ≡ map (with_moment l.moment) (take l.i (map waiter_view l.fn.waiters))
      ++ drop l.i (map waiter_view l.fn.waiters);
  released : l.released.items ≡ l.fn.released.items ++ filter_map (release_seen l.moment) (take l.i (map waiter_view l.fn.waiters));
  room : vec_len l.released ≤ vec_len l.fn.released + l.i;
  capacity : vec_capacity l.released ≡ vec_capacity l.fn.released;
}
