use Rattle.event_directory.proofs.Sends.{hears_left}
use Rattle.event_directory.proofs.directory.Directory.unsubscribe.Goals as goal

pub returns-clause-hears : goal.returns-clause-hears
returns-clause-hears g c = hears_left g.F.Finds.test c.args.self.now.standing _ c.args.id c.leave.ensures.after
