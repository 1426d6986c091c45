use Rattle.s6_script.proofs.Entries.{unread_back, entry_read}
use Rattle.s6_script.proofs.entry_options.entry_of.Goals as goal

pub returns-in-Some-clause-spelled : goal.returns-in-Some-clause-spelled
returns-in-Some-clause-spelled g c = unread_back _ _ _ c.in-Some.ensures c.name_of.ensures.spelled

pub returns-clause-spelled : goal.returns-clause-spelled
returns-clause-spelled g c =
    entry_read _ _ c.args.word.now c.word_at.result.now _ _ c.in_default.ensures c.in_ok-parts.ensures
    (rw c.as_slice.ensures.value at c.word_at.ensures) (rw c.as_slice-2.ensures.value at c.words_from.ensures)
    c.name_of-name.ensures.spelled c.config_of-config.ensures.spelled
