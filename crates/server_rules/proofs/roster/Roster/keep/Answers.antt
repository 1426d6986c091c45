use Rattle.std.proofs.Common.{rules, ap, ◌∙◌}
use Rattle.std.proofs.lemmas.Fn.{filter_same}
use Rattle.std.specs.List.{filter}
use Rattle.server_rules.specs.Roster.{has_row}
use Rattle.server_rules.proofs.roster.Roster.keep.Goals as goal

pub returns : goal.returns
returns c =
    filter_same _ (has_row c.args.rows.now) _ (λ x b f k. search rules) _ _ c.retain.ensures.filtered
    ∙ ap (filter (has_row c.args.rows.now)) c.self.view_is
