use Rattle.std.proofs.Common.{◌≡◌, ◌++◌, map, take, drop}
use Rattle.s6_events.specs.Newest.{mark_of}
use Rattle.wait_conditions.specs.Watched.{watched_after}
use Rattle.wait_conditions.specs.Counts.{counts_of}
use Rattle.wait_conditions.proofs.counts.watch_all.Given as goal

abbrev pub invariant-loop-i : goal.invariant-loop-i
invariant-loop-i l = record {
  watched : l.watched ≡ map (λ w. watched_after l.condition (mark_of w.sid l.moment) w) (take l.i l.fn.watched) ++ drop l.i l.fn.watched;
  counted : l.counts ≡ counts_of l.watched;
}
