use Rattle.svc_commands.proofs.Cuts.{program_is, program_none}
use Rattle.svc_commands.proofs.svlisten.after_dashes.Goals as goal

pub returns-then-at-words : goal.returns-then-at-words
returns-then-at-words c = program_is c.args.words.now c.cut_at-at.result c.cut_at-at.ensures.place

pub returns-else-at-words : goal.returns-else-at-words
returns-else-at-words c = program_none c.args.words.now c.cut_at-at.result c.cut_at-at.ensures.place c.if-at-words.false
