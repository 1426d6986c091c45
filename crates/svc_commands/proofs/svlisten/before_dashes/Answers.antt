use Rattle.svc_commands.proofs.Cuts.{own_is}
use Rattle.svc_commands.proofs.svlisten.before_dashes.Goals as goal

pub returns : goal.returns
returns c = own_is c.args.words.now c.cut_at.result c.cut_at.ensures.place
