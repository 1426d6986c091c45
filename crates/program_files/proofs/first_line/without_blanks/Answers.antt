use Rattle.std.proofs.Common.{ℕ, ◌∙◌, length, not, sym}
use Rattle.std.proofs.lemmas.List.{take_rest}
use Rattle.program_files.specs.FirstLine.{is_blank}
use Rattle.program_files.proofs.Fronts.{rest_from_place, rest_none}
use Rattle.program_files.proofs.first_line.without_blanks.Goals as goal

pub returns-in-Some : goal.returns-in-Some
returns-in-Some c =
    take_rest c.args.text.now c.in-Some.begin
    ∙ rest_from_place (λ (byte : ℕ). not (is_blank byte)) c.args.text.now c.in-Some.begin (sym c.in-Some.ensures.place)

pub returns-in-None : goal.returns-in-None
returns-in-None c =
    take_rest c.args.text.now (length c.args.text.now)
    ∙ rest_none (λ (byte : ℕ). not (is_blank byte)) c.args.text.now (sym c.in-None.ensures.place)
