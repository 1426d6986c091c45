use Rattle.std.proofs.Common.{sym}
use Rattle.s6_script.proofs.WordsTaken.{more_words}
use Rattle.s6_script.proofs.words.Words.has_more.Goals as goal

pub returns : goal.returns
returns c = more_words c.self.inside.more c.self.inside.rest.now c.args.self.now (sym c.self.view_is)
