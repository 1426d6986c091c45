use Rattle.std.proofs.Common.{ℕ, List, ◌++◌, codes, ap, ◌∙◌}
use Rattle.tree_front.proofs.no_memory.no_memory_lines.Goals as goal

pub returns : goal.returns
returns c =
    let second = codes ": the system refused memory; try again later\n" in
    c.in_ok-add_line-2.ensures
    ∙ ap (λ (told : List ℕ). told ++ (c.args.program.now ++ second))
    (c.in_ok-add_line.ensures ∙ ap (λ (told : List ℕ). told ++ (c.args.program.now ++ codes ": no memory\n")) c.new-told.ensures)
