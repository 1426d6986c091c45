use Rattle.std.proofs.Common.{◌∙◌, ap, Some, option_map, bytes_eq}
use Rattle.supervise_core.specs.Service.{Supervised}
use Rattle.supervise_core.specs.StatusRow.{status_row}
use Rattle.tree_core.proofs.RowFound.{find_charts, agrees_with_found}
use Rattle.tree_core.proofs.rows.row_of.Goals as goal

pub returns-in_err-named : goal.returns-in_err-named
returns-in_err-named g c = λ history agrees.
    rw c.from_residual.ensures
    (ap (option_map (λ (s : Supervised). status_row history c.args.now s.chart)) c.in_err-named.ensures
    ∙ find_charts (status_row history c.args.now) (λ x. bytes_eq c.args.name x.name) c.args.registry.now.shown.services)

pub returns : goal.returns
returns g c = λ history agrees.
    ap Some (c.row.ensures history (agrees_with_found _ c.args.registry.now.shown.services history c.in_ok-named.field-0.now agrees
    c.in_ok-named.ensures))
    ∙ (ap (option_map (λ (s : Supervised). status_row history c.args.now s.chart)) c.in_ok-named.ensures
    ∙ find_charts (status_row history c.args.now) (λ x. bytes_eq c.args.name x.name) c.args.registry.now.shown.services)
