use Rattle.std.proofs.Common.{rules, ◌≡◌, ◌∙◌, ap, subst, sym, length, false}
use Rattle.std.specs.Prelude.{◌==◌, IsSome, nat_lt, not}
use Rattle.std.specs.List.{join_with_byte, slice_split}
use Rattle.std.proofs.lemmas.List.Splits.{join_with_byte-slice_split}
use Rattle.s6_script.specs.Spelling.{act_words}
use Rattle.s6_script.specs.Verb.{text_words}
use Rattle.s6_script.proofs.Reading.{act_words_back}
use Rattle.s6_script.proofs.ReadOnce.{all_taken, read_once}
use Rattle.s6_script.proofs.reports.read_report.Goals as goal

pub returns-in-Some-clause-found : goal.returns-in-Some-clause-found
returns-in-Some-clause-found g c = λ t.
    let act = c.take_report.new.act in
    let last : nat_lt 0 (length c.take_report.new.words) ≡ false = search rules in
    let cut : text_words c.args.text.now ≡ act_words act =
    sym c.of-words.ensures ∙ all_taken _ (act_words act) c.take_report.new.words c.in-Some.ensures.words last in
    record {
      fits = c.in-Some.ensures.fits;
      text_is = sym (join_with_byte-slice_split 32 c.args.text.now) ∙ ap (join_with_byte 32) cut;
    }

pub returns-in-Some-clause-only : goal.returns-in-Some-clause-only
returns-in-Some-clause-only g c = λ t other s.
    let act = c.take_report.new.act in
    let last : nat_lt 0 (length c.take_report.new.words) ≡ false = search rules in
    let cut : text_words c.args.text.now ≡ act_words act =
    sym c.of-words.ensures ∙ all_taken _ (act_words act) c.take_report.new.words c.in-Some.ensures.words last in
    read_once act other c.in-Some.ensures.read c.in-Some.ensures.fits s.fits
    (sym cut ∙ (ap (λ t. slice_split (λ b. b == 32) t) s.text_is ∙ act_words_back other s.fits))

pub returns-in-Some-clause-all : goal.returns-in-Some-clause-all
returns-in-Some-clause-all g c = λ told s is short.
    let words = c.of-words.ensures ∙ (ap (λ t. slice_split (λ b. b == 32) t) s.text_is ∙ act_words_back told s.fits) in
    ap not (c.has_more.ensures ∙ ap (λ ws. nat_lt 0 (length ws)) (c.take_report.ensures.all told s.fits is short words).1)

pub returns-in-None-clause-all : goal.returns-in-None-clause-all
returns-in-None-clause-all g c = λ told s is short.
    let words = c.of-words.ensures ∙ (ap (λ t. slice_split (λ b. b == 32) t) s.text_is ∙ act_words_back told s.fits) in
    subst (λ o. IsSome o) c.in-None.is (c.take_report.ensures.all told s.fits is short words).0
