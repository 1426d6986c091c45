use Rattle.std.proofs.Common.{◌≡◌, ◌∙◌, ◌++◌, [], ◌∷◌, ap, sym, Some}
use Rattle.control_letters.specs.ControlLetter.{letter_of_byte}
use Rattle.s6_script.proofs.Letters.{letter_back}
use Rattle.s6_script.proofs.parse.add_letter.Goals as goal

pub returns-in-Some-clause-spelled : goal.returns-in-Some-clause-spelled
returns-in-Some-clause-spelled c = λ letter room same.
    let both : Some c.in-Some.letter ≡ Some letter = sym c.in-Some.is ∙ (c.of_byte.ensures ∙ (ap letter_of_byte same ∙ letter_back letter)) in
    let one : c.in-Some.letter ≡ letter = cc both in
    c.push.ensures.items ∙ ap (λ l. c.args.letters.now.items ++ l ∷ []) one

pub returns-in_default-clause-spelled : goal.returns-in_default-clause-spelled
returns-in_default-clause-spelled c = λ letter room same.
    let both : c.of_byte.result ≡ Some letter = c.of_byte.ensures ∙ (ap letter_of_byte same ∙ letter_back letter) in
    cc (both, c.in_default.is)
