use Rattle.std.proofs.Common.{◌≡◌, ◌∙◌, sym, ap}
use Rattle.std.specs.Prelude.{true}
use Rattle.std.specs.Cmp.Lexicographic.{bytes_decides}
use Rattle.s6_script.specs.Spelling.{act_spelling}
use Rattle.s6_script.specs.Unbuilt.{act_read}
use Rattle.s6_script.proofs.Building.{act_reads, built_found, built_only, unbuilt_line, unbuilt_pattern}
use Rattle.s6_script.proofs.parse.parse_other.Goals as goal

pub returns-then-eq-clause-found : goal.returns-then-eq-clause-found
returns-then-eq-clause-found g c =
    let same : c.as_slice.result.now ≡ c.args.words.now =
    (bytes_decides c.as_slice.result.now c.args.words.now).0 (sym c.eq.ensures ∙ c.if-eq.true) in
    built_found c.args.words.now c.in_ok-act.act c.build_act.result c.in_ok-act.ensures.fits
    c.build_act.ensures.ok c.build_act.ensures.fits (sym same ∙ (c.as_slice.ensures.value ∙ c.in_ok-spell_read.ensures))

pub returns-then-eq-clause-only : goal.returns-then-eq-clause-only
returns-then-eq-clause-only g c =
    built_only c.args.words.now c.in_ok-act.act c.build_act.result c.build_act.ensures.ok
    (act_reads c.args.words.now _ c.in_ok-act.act c.of.ensures c.in_ok-act.ensures.spelled)

pub returns-then-eq-clause-line : goal.returns-then-eq-clause-line
returns-then-eq-clause-line g c =
    unbuilt_line c.args.words.now c.in_ok-act.act c.build_act.result c.build_act.ensures.line
    (act_reads c.args.words.now _ c.in_ok-act.act c.of.ensures c.in_ok-act.ensures.spelled)

pub returns-then-eq-clause-pattern : goal.returns-then-eq-clause-pattern
returns-then-eq-clause-pattern g c =
    let same : c.as_slice.result.now ≡ c.args.words.now =
    (bytes_decides c.as_slice.result.now c.args.words.now).0 (sym c.eq.ensures ∙ c.if-eq.true) in
    unbuilt_pattern c.args.words.now c.in_ok-act.act c.build_act.result c.in_ok-act.ensures.fits
    c.build_act.ensures.fits c.build_act.ensures.pattern (sym same ∙ (c.as_slice.ensures.value ∙ c.in_ok-spell_read.ensures))

pub returns-else-eq-clause-line : goal.returns-else-eq-clause-line
returns-else-eq-clause-line g c = λ _ act s.
    let found : act_read c.in_ok-act.act ≡ act =
    act_reads c.args.words.now _ c.in_ok-act.act c.of.ensures c.in_ok-act.ensures.spelled act s in
    let again : c.spell_read.new.text.items ≡ c.args.words.now = c.in_ok-spell_read.ensures ∙ ap act_spelling found ∙ sym s.text_is in
    let same : c.as_slice.result.now ≡ c.args.words.now = c.as_slice.ensures.value ∙ again in
    let test : c.eq.result ≡ true = c.eq.ensures ∙ (bytes_decides c.as_slice.result.now c.args.words.now).1 same in
    cc
