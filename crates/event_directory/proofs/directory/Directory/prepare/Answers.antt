use Rattle.event_directory.proofs.Sends.{prepares}
use Rattle.event_directory.proofs.directory.Directory.prepare.Goals as goal

pub returns-clause-defined : goal.returns-clause-defined
returns-clause-defined g c =
    prepares g.F.Finds.test c.args.letters.now c.args.self.now.standing _ _ c.in_ok-plan.ensures.hits c.in_ok-plan.ensures.planned
