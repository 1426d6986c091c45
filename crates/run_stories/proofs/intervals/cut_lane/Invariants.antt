use Rattle.std.proofs.Common.{◌≡◌, ℕ, ◌≤◌, drop}
use Rattle.run_stories.specs.Intervals.{Fill, shown_at}
use Rattle.run_stories.specs.declared.shade.Shade.TheVariants.{Absent}
use Rattle.run_stories.proofs.intervals.cut_lane.Given as goal

abbrev pub invariant-loop-change : goal.invariant-loop-change
invariant-loop-change g l = record {
  fill : Fill (shown_at l.scale Absent l.changes) 0 l.intervals.items l.from;
  within : l.from ≤ 10000;
  rest : (place : ℕ) → l.from ≤ place
      → shown_at l.scale Absent l.changes place ≡ shown_at l.scale l.shade (drop l.change-index l.changes) place;
}
