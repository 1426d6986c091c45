use Rattle.std.proofs.Common.{arith, ◌∙◌}
use Rattle.event_directory.proofs.Steps.{more_moments, more_moment_hits}
use Rattle.event_directory.proofs.step_letters.hear_moments.Goals as goal

pub loop-moment-preserved : goal.loop-moment-preserved
loop-moment-preserved g c = record {
  same = c.hear_moment.ensures.same ∙ c.loop-moment.invariant.same;
  rooms = c.hear_moment.ensures.rooms ∙ c.loop-moment.invariant.rooms;
  prepared = more_moments g.F.Finds.test c.args.moments.now c.loop-moment.moment-index c.moment-item.result c.moment-item.result
      (omega arith) c.moment-item.is _ _ _ c.loop-moment.invariant.prepared c.in_ok-hear_moment.ensures.prepared;
  matches = more_moment_hits g.F.Finds.test c.args.moments.now c.loop-moment.moment-index c.moment-item.result c.moment-item.result
      (omega arith) c.moment-item.is _ _ _ _ _ c.loop-moment.invariant.prepared c.loop-moment.invariant.matches c.in_ok-hear_moment.ensures.matches;
}
