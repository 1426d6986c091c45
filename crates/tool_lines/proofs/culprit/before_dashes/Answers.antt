use Rattle.std.proofs.Common.{◌∙◌, ℕ, List, Bor, ap, codes, sym}
use Rattle.std.proofs.lemmas.List.{take-map}
use Rattle.std.specs.Str.{bytes_eq}
use Rattle.tool_lines.specs.Culprits.{before_place}
use Rattle.tool_lines.proofs.Texts.{same_place, texts_of}
use Rattle.tool_lines.proofs.culprit.before_dashes.Goals as goal

pub returns-in-Some : goal.returns-in-Some
returns-in-Some c =
    sym (take-map (λ (w : Bor (List ℕ)). w.now) c.in-Some.place c.args.words.now)
    ∙ ap (λ at. before_place at (texts_of c.args.words.now)) (c.in-Some.ensures.place ∙ same_place (λ w. bytes_eq w (codes "--")) c.args.words.now)

pub returns-in-None : goal.returns-in-None
returns-in-None c =
    ap (λ at. before_place at (texts_of c.args.words.now)) (c.in-None.ensures.place ∙ same_place (λ w. bytes_eq w (codes "--")) c.args.words.now)
