use Rattle.std.proofs.Common.{◌∙◌}
use Rattle.event_directory.proofs.Leaves.{view_written}
use Rattle.event_directory.proofs.directories.Directories.list.Goals as goal

pub returns : goal.returns
returns g c d h = c.stored_list.ensures ∙ view_written g.F.Finds.test c.args.id c.args.self.now.shown d h
