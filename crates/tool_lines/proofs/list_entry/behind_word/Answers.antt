use Rattle.std.proofs.Common.{◌∙◌, ◌+◌, sym, ap, arith}
use Rattle.std.proofs.lemmas.List.{take_all, length-drop}
use Rattle.tool_lines.specs.ListEntries.{behind_at}
use Rattle.tool_lines.proofs.list_entry.behind_word.Goals as goal

pub returns-in-Some : goal.returns-in-Some
returns-in-Some c =
    let line = c.args.line.now in
    let place = c.in-Some.place in
    take_all _ _ (omega (arith, length-drop (place + 1) line))
    ∙ ap (λ p. behind_at p line) (sym c.in-Some.is ∙ c.space_in.ensures.place)
