use Rattle.s6_script.proofs.Subscribes.{subscribe_found}
use Rattle.s6_script.proofs.subscribing.subscribe_of.Goals as goal

pub returns-clause-spelled : goal.returns-clause-spelled
returns-clause-spelled g c =
    subscribe_found c.args.words.now c.target_of-target.new.words c.target_of-target.result _ c.repeats_of-repeats.result c.take_next.result.now _
    c.rest.result.now
    c.target_of-target.ensures.spelled c.target_of-target.ensures.rest c.take_next.ensures.word c.take_next.ensures.rest c.rest.ensures
    c.repeats_of-repeats.ensures c.in_ok-text.ensures
