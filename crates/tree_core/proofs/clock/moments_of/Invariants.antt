use Rattle.std.proofs.Common.{◌≡◌, ◌≤◌, ◌+◌, ◌++◌, take, map, length}
use Rattle.svscan_core.specs.Moves.{moment_of}
use Rattle.tree_core.specs.Step.{clock_moments}
use Rattle.tree_core.proofs.clock.moments_of.Given as goal

abbrev pub invariant-loop-event : goal.invariant-loop-event
invariant-loop-event g l = record {
  moments : l.moments.items ≡ clock_moments l.fn.clock l.fn.at ++ map moment_of (take l.event-index l.events);
  count : length l.moments.items ≤ 1 + l.event-index;
}
