-- Bad names come first, then too many of them.
use Rattle.std.proofs.Common.{rules, ◌≡◌, ◌≤◌, ◌∙◌, ◌++◌, ◌∷◌, [], true, false, length, take, ap, sym, arith, Some}
use Rattle.std.proofs.lemmas.List.{length-take-le, take_all}
use Rattle.std.specs.List.{list_all}
use Rattle.s6_events.specs.Name.{is_name}
use Rattle.svc_commands.specs.FirstFault.{names_fault}
use Rattle.svc_commands.specs.declared.usage_fault.UsageFault.TheVariants.{TooMany}
use Rattle.svc_commands.proofs.NameWords.{all_texts, bad_word, bad_names, many_names, good_names}
use Rattle.svc_commands.proofs.Words.{IsWordAt, texts_of, length_texts, to_word}
use Rattle.svc_commands.proofs.names.names_in.Goals as goal

pub returns-then-not-are_names : goal.returns-then-not-are_names
returns-then-not-are_names c = bad_names (texts_of c.args.words.now)
    (sym (all_texts c.args.words.now) ∙ sym c.are_names.ensures ∙ c.if-not-are_names.true)

pub returns-in_err-name : goal.returns-in_err-name
returns-in_err-name c =
    let at : IsWordAt c.args.words.now c.loop-word.word-index c.as_bytes.result.now =
    record { within = c.loop-word-test.true; is = c.as_bytes.ensures.value } in
    let no : true ≡ false = sym c.if-not-are_names.false ∙ c.are_names.ensures ∙ bad_word _ _ _ at c.in_err-name.ensures.0 in absurd (cc)

pub returns-in_err-add_name : goal.returns-in_err-add_name
returns-in_err-add_name c =
    let all : list_all is_name (texts_of c.args.words.now) ≡ true =
    sym (all_texts c.args.words.now) ∙ sym c.are_names.ensures ∙ c.if-not-are_names.false in
    let len : length (texts_of c.args.words.now) ≡ length c.args.words.now = length_texts c.args.words.now in
    let full : 16 ≤ length (take c.loop-word.word-index (texts_of c.args.words.now)) =
    rw (← c.loop-word.invariant.names) c.in_err-add_name.ensures.0 in
    let some : length (take c.loop-word.word-index (texts_of c.args.words.now)) ≡ c.loop-word.word-index =
    length-take-le c.loop-word.word-index (texts_of c.args.words.now) (omega (arith, len, c.loop-word-test.true)) in
    let told : names_fault (texts_of c.args.words.now) ≡ Some TooMany =
    many_names (texts_of c.args.words.now) all (omega (arith, len, full, some, c.loop-word-test.true)) in
    search rules

pub loop-word-preserved : goal.loop-word-preserved
loop-word-preserved c =
    let at : IsWordAt c.args.words.now c.loop-word.word-index c.as_bytes.result.now =
    record { within = c.loop-word-test.true; is = c.as_bytes.ensures.value } in
    record {
      names = c.in_ok-add_name.ensures.0 ∙ ap (λ ns. ns ++ c.in_ok-name.name ∷ []) c.loop-word.invariant.names
          ∙ ap (λ n. take c.loop-word.word-index (texts_of c.args.words.now) ++ n ∷ []) c.in_ok-name.ensures.0
          ∙ sym (to_word _ _ _ at);
      few = c.in_ok-add_name.ensures.1;
    }

pub returns : goal.returns
returns c =
    let all : list_all is_name (texts_of c.args.words.now) ≡ true =
    sym (all_texts c.args.words.now) ∙ sym c.are_names.ensures ∙ c.if-not-are_names.false in
    let len : length (texts_of c.args.words.now) ≡ length c.args.words.now = length_texts c.args.words.now in
    let whole : c.loop-word.names.items ≡ texts_of c.args.words.now =
    c.loop-word.invariant.names ∙ take_all c.loop-word.word-index (texts_of c.args.words.now) (omega (arith, len, c.loop-word-test.false)) in
    let few : length (texts_of c.args.words.now) ≤ 16 = rw (← whole) c.loop-word.invariant.few in
    (whole, good_names (texts_of c.args.words.now) all few)
