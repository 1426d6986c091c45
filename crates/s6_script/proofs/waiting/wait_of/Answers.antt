use Rattle.std.proofs.Common.{◌∙◌}
use Rattle.s6_script.proofs.WordsTaken.{next_word, one_taken}
use Rattle.s6_script.proofs.Waits.{wait_found}
use Rattle.s6_script.proofs.waiting.wait_of.Goals as goal

pub returns-clause-spelled : goal.returns-clause-spelled
returns-clause-spelled g c =
    let two = one_taken 1 c.args.words.now _ _ c.take_next.ensures.rest c.take_next-2.ensures.rest in
    let three = one_taken 2 c.args.words.now _ _ two c.take_next-3.ensures.rest in
    wait_found c.args.words.now c.condition_of-condition.result c.mode_of-mode.result c.count_of-timeout.result c.new.result _ _ _ _
    c.take_next.ensures.word (next_word 1 c.args.words.now _ _ c.take_next.ensures.rest c.take_next-2.ensures.word)
    (next_word 2 c.args.words.now _ _ two c.take_next-3.ensures.word) three
    c.condition_of-condition.ensures c.mode_of-mode.ensures c.count_of-timeout.ensures.spelled
    (λ names fits spelled. c.new.ensures ∙ c.in_ok-names.ensures.spelled names fits spelled)
