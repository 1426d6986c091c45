use Rattle.std.proofs.Common.{[], ◌∷◌, ap, ◌∙◌}
use Rattle.status_board.specs.declared.shot.Shot.{Shot}
use Rattle.office.proofs.board_ends.board_ends.Goals as goal

pub returns-clause-first : goal.returns-clause-first
returns-clause-first g c m stands = c.in-Ok-open.ensures.ok ∙ ap (λ (s : Shot). s ∷ []) (c.in-Ok.ensures m stands)
