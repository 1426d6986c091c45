use Rattle.std.proofs.Common.{◌≡◌, ℕ, List, ◌∷◌, ap, sym, ◌∙◌, arith}
use Rattle.std.proofs.lemmas.Bool.Decides.{nat_tests}
use Rattle.step_codes.proofs.ActBegins.{act_begins}
use Rattle.step_codes.proofs.acts.take_act.Goals as goal

pub returns-in_ok-take_told : goal.returns-in_ok-take_told
returns-in_ok-take_told c one rest fits is =
    let begun = act_begins one rest fits in
    let byte = c.take_byte-kind.ensures begun.kind begun.more (is ∙ begun.is) in
    c.in_ok-take_told.ensures one rest fits (let low = c.if-kind-le5.true in grind (arith, nat_tests)) (rw (byte.0, byte.1) (sym begun.is))

pub returns-in_ok-take_asked : goal.returns-in_ok-take_asked
returns-in_ok-take_asked c one rest fits is =
    let begun = act_begins one rest fits in
    let byte = c.take_byte-kind.ensures begun.kind begun.more (is ∙ begun.is) in
    c.in_ok-take_asked.ensures one rest fits (let high = c.if-kind-le5.false in grind (arith, nat_tests)) (rw (byte.0, byte.1) (sym begun.is))
