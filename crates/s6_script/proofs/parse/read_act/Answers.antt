use Rattle.s6_script.proofs.Reading.{verb_read}
use Rattle.s6_script.proofs.parse.read_act.Goals as goal

pub returns-clause-spelled : goal.returns-clause-spelled
returns-clause-spelled g c =
    verb_read c.verb_of-verb.result _ c.take_next.result.now _ c.args.words.now c.take_next.ensures.word c.take_next.ensures.rest
    c.verb_of-verb.ensures c.act_of.ensures.spelled
