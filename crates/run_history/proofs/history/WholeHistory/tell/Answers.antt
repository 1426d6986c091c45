use Rattle.std.proofs.Common.{rules, sym, ◌∙◌}
use Rattle.run_history.proofs.Moves.{gives_as}
use Rattle.run_history.proofs.history.WholeHistory.tell.Goals as goal

pub split_pass-pass-requires : goal.split_pass-pass-requires
split_pass-pass-requires g c =
    let i = c.self.invariant in
    (search rules, (search rules, (i.1 ∙ sym i.0, gives_as _ _ _ i.2)))
