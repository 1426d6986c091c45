use Rattle.event_directory.proofs.Views.{lists_as_defined}
use Rattle.event_directory.proofs.directory.Directory.list.Goals as goal

pub returns-clause-defined : goal.returns-clause-defined
returns-clause-defined g c = lists_as_defined g.F.Finds.test c.args.self.now.standing c.args.id _ c.stored_view.ensures
