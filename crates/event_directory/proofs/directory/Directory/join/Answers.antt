use Rattle.event_directory.proofs.Sends.{hears_joined}
use Rattle.event_directory.proofs.directory.Directory.join.Goals as goal

pub returns-clause-hears : goal.returns-clause-hears
returns-clause-hears g c =
    hears_joined g.F.Finds.test c.args.self.now.standing _ c.args.id
    (g.F.Finds.source c.args.pattern) c.args.repeats c.requires.greater c.take_in.ensures.after
