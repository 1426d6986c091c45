use Rattle.std.proofs.Common.{[], ap, drop, sym}
use Rattle.std.specs.Prelude.{slice_index_or}
use Rattle.std.proofs.lemmas.List.{take_rest}
use Rattle.s6_script.proofs.WordsTaken.{last_word, word_before}
use Rattle.s6_script.proofs.words.Words.take_next.Goals as goal

pub returns-in-None-clause-word : goal.returns-in-None-clause-word
returns-in-None-clause-word c =
    sym (ap (λ ws. slice_index_or ws 0 []) (last_word c.self.inside.more c.self.inside.rest.now c.args.self.now
    (sym c.self.view_is) c.if-not-self.false c.in-None.ensures))

pub returns-in-None-clause-rest : goal.returns-in-None-clause-rest
returns-in-None-clause-rest c =
    sym (ap (drop 1) (last_word c.self.inside.more c.self.inside.rest.now c.args.self.now
    (sym c.self.view_is) c.if-not-self.false c.in-None.ensures))

pub returns-in-Some-clause-word : goal.returns-in-Some-clause-word
returns-in-Some-clause-word c =
    sym (ap (λ ws. slice_index_or ws 0 []) (word_before c.self.inside.more c.self.inside.rest.now c.args.self.now
    (sym c.self.view_is) c.if-not-self.false c.in-Some.place c.in-Some.ensures))

pub returns-in-Some-clause-rest : goal.returns-in-Some-clause-rest
returns-in-Some-clause-rest c =
    let next = word_before c.self.inside.more c.self.inside.rest.now c.args.self.now
    (sym c.self.view_is) c.if-not-self.false c.in-Some.place c.in-Some.ensures in
    rw (c.if-not-self.false, take_rest) (sym (ap (drop 1) next))
