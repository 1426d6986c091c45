use Rattle.std.proofs.Common.{arith}
use Rattle.wait_conditions.proofs.Runs.{drops_covered}
use Rattle.wait_conditions.proofs.service_states.is_covered.Goals as goal

pub returns-clause-same : goal.returns-clause-same
returns-clause-same g = λ h. drops_covered g.args.runs.now g.args.place _ _ _ (omega (arith, g.if-place-eq0.false)) g.requires
    g.index-runs-place-2.is g.index-runs-place.is (g.reaches_no_further.ensures.bound h)
