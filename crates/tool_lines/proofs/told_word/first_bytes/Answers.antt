use Rattle.std.proofs.Common.{◌≤◌, sym, arith, subst}
use Rattle.std.proofs.lemmas.List.{take_all, length-take-le}
use Rattle.tool_lines.proofs.told_word.first_bytes.Goals as goal

pub slice_bounds-result-end : goal.slice_bounds-result-end
slice_bounds-result-end c = sym (length-take-le 32 c.args.bytes.now (omega arith))

pub returns-then-bytes-le32-clause-first : goal.returns-then-bytes-le32-clause-first
returns-then-bytes-le32-clause-first c = sym (take_all 32 c.args.bytes.now (omega arith))

pub returns-else-bytes-le32-clause-bound : goal.returns-else-bytes-le32-clause-bound
returns-else-bytes-le32-clause-bound c =
    subst (λ n. n ≤ 32) (sym (length-take-le 32 c.args.bytes.now (omega arith))) (omega arith)
