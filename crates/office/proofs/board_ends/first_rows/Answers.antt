use Rattle.std.proofs.Common.{◌∙◌}
use Rattle.locked_services.proofs.Shown.{shot_is}
use Rattle.office.proofs.board_ends.first_rows.Goals as goal

pub returns : goal.returns
returns c m stands = c.new.ensures
    ∙ shot_is m (record { at = c.steps-at.result; rows = record { items = c.fill_rows.new.rows.items } }) (c.steps-at.ensures m stands)
    (c.in_ok-fill_rows.ensures.each m stands)
