use Rattle.std.proofs.Common.{sym}
use Rattle.s6_script.proofs.WordsTaken.{rest_joined}
use Rattle.s6_script.proofs.words.Words.rest.Goals as goal

pub returns-then-self : goal.returns-then-self
returns-then-self c = sym (rest_joined c.self.inside.more c.self.inside.rest.now c.args.self.now (sym c.self.view_is) c.if-self.true)
