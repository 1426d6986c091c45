use Rattle.std.proofs.Common.{◌∙◌, sym}
use Rattle.tree_core.specs.declared.input.Act.TheVariants.{Tick}
use Rattle.s6_script.proofs.DeathLists.{list_fits}
use Rattle.s6_script.proofs.Reading.{permafailon_found, permafailon_lost}
use Rattle.s6_script.proofs.WordsTaken.{next_word, one_taken}
use Rattle.s6_script.proofs.death_list.permafailon_of.Goals as goal

pub returns-in-Some-clause-spelled : goal.returns-in-Some-clause-spelled
returns-in-Some-clause-spelled g c =
    let two = one_taken 1 c.args.words.now _ _ c.take_next.ensures.rest c.take_next-2.ensures.rest in
    let three = one_taken 2 c.args.words.now _ _ two c.take_next-3.ensures.rest in
    permafailon_found c.args.words.now c.name_of-name.result c.count_of-seconds.result c.count_of-count.result c.in-Some.list _ _ _ _
    c.take_next.ensures.word (next_word 1 c.args.words.now _ _ c.take_next.ensures.rest c.take_next-2.ensures.word)
    (next_word 2 c.args.words.now _ _ two c.take_next-3.ensures.word) (next_word 3 c.args.words.now _ _ three c.take_next-4.ensures.word)
    c.name_of-name.ensures.spelled c.count_of-seconds.ensures.spelled c.count_of-count.ensures.spelled
    (sym c.in-Some.is ∙ c.in_ok-list.ensures)

pub returns-in-Some-clause-fits : goal.returns-in-Some-clause-fits
returns-in-Some-clause-fits g c = (
  (
    c.name_of-name.ensures.fits,
    c.count_of-seconds.ensures.fits,
    c.count_of-count.ensures.fits,
    list_fits c.take_next-4.result.now c.in-Some.list (sym (sym c.in-Some.is ∙ c.in_ok-list.ensures)),
  ),
  tt,
)

pub returns-in-None-clause-spelled : goal.returns-in-None-clause-spelled
returns-in-None-clause-spelled g c =
    let two = one_taken 1 c.args.words.now _ _ c.take_next.ensures.rest c.take_next-2.ensures.rest in
    let three = one_taken 2 c.args.words.now _ _ two c.take_next-3.ensures.rest in
    permafailon_lost c.args.words.now Tick _ (next_word 3 c.args.words.now _ _ three c.take_next-4.ensures.word)
    (sym c.in-None.is ∙ c.in_ok-list.ensures)
