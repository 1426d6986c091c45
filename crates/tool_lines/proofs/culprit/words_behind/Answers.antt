use Rattle.std.proofs.Common.{◌∙◌, ◌+◌, ◌-◌, ℕ, List, Bor, ap, arith, drop, length, sym}
use Rattle.std.proofs.lemmas.List.{drop-map, length-drop, take_all}
use Rattle.tool_lines.specs.Culprits.{behind_place}
use Rattle.tool_lines.specs.WrongWords.{is_wrong}
use Rattle.tool_lines.proofs.Texts.{same_place, texts_of}
use Rattle.tool_lines.proofs.culprit.words_behind.Goals as goal

pub returns-in-Some : goal.returns-in-Some
returns-in-Some c =
    let words = c.args.words.now in
    let at = c.in-Some.place + 1 in
    ap texts_of (take_all (length words - at) (drop at words) (omega (arith, length-drop at words)))
    ∙ sym (drop-map (λ (w : Bor (List ℕ)). w.now) at words)
    ∙ ap (λ place. behind_place place (texts_of words)) (c.in-Some.ensures.place ∙ same_place (is_wrong c.args.wrong) words)

pub returns-in-None : goal.returns-in-None
returns-in-None c =
    ap (λ place. behind_place place (texts_of c.args.words.now)) (c.in-None.ensures.place ∙ same_place (is_wrong c.args.wrong) c.args.words.now)
