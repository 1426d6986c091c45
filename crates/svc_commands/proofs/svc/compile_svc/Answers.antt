-- What has been read goes on by one word, or the word is refused.
use Rattle.std.proofs.Common.{rules, ◌≡◌, ◌+◌, false, length, is_some, ap, ◌∙◌, Some, drop}
use Rattle.svc_commands.specs.LetterWords.{name_fault, svc_letters, words_fault}
use Rattle.svc_commands.proofs.Words.{IsWordAt, texts_of, from_word, letters_next, names_next}
use Rattle.svc_commands.proofs.svc.compile_svc.Goals as goal

pub returns-in_err-read_word : goal.returns-in_err-read_word
returns-in_err-read_word c =
    let at : IsWordAt c.args.words.now c.loop-word.word-index c.as_bytes.result.now =
    record { within = c.loop-word-test.true; is = c.as_bytes.ensures.value } in
    let told : words_fault svc_letters name_fault 0 false (texts_of c.args.words.now) ≡ Some c.in_err-read_word.field-0.0 =
    c.loop-word.invariant.fault
    ∙ ap (words_fault svc_letters name_fault (length c.loop-word.letters.items) (is_some c.loop-word.name)) (from_word _ _ _ at)
    ∙ c.in_err-read_word.ensures.stops (drop (c.loop-word.word-index + 1) (texts_of c.args.words.now)) in
    search rules

pub loop-word-preserved : goal.loop-word-preserved
loop-word-preserved c =
    let at : IsWordAt c.args.words.now c.loop-word.word-index c.as_bytes.result.now =
    record { within = c.loop-word-test.true; is = c.as_bytes.ensures.value } in
    record {
      letters = letters_next svc_letters _ _ _ _ _ at c.loop-word.invariant.letters c.in_ok-read_word.ensures.1.adds;
      name = names_next _ _ _ _ _ at c.loop-word.invariant.name c.in_ok-read_word.ensures.0;
      fault = c.loop-word.invariant.fault
          ∙ ap (words_fault svc_letters name_fault (length c.loop-word.letters.items) (is_some c.loop-word.name)) (from_word _ _ _ at)
          ∙ c.in_ok-read_word.ensures.1.goes (drop (c.loop-word.word-index + 1) (texts_of c.args.words.now));
    }
