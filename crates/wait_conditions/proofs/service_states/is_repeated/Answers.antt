use Rattle.std.proofs.Common.{arith}
use Rattle.wait_conditions.proofs.Runs.{drops_repeated}
use Rattle.wait_conditions.proofs.service_states.is_repeated.Goals as goal

pub returns-clause-same : goal.returns-clause-same
returns-clause-same g = λ h. drops_repeated g.args.runs.now g.args.place _ _ (omega arith)
    g.index-runs-place.is g.index-runs-place-2.is (g.says_the_same.ensures.reach h) (g.says_the_same.ensures.same h)
