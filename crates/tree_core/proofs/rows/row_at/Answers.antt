use Rattle.std.proofs.Common.{◌∙◌, ap, sym}
use Rattle.std.specs.Prelude.{Some}
use Rattle.supervise_core.specs.StatusRow.{status_row}
use Rattle.tree_core.proofs.RowFound.{row_there, agrees_there}
use Rattle.tree_core.proofs.rows.row_at.Goals as goal

pub returns : goal.returns
returns g c = λ history agrees.
    let services = c.args.registry.now.shown.services in
    let there = c.at.ensures in
    row_there services c.args.place c.in-Some.service.now (status_row history c.args.now) c.in-Some.ensures
    ∙ ap Some (sym (c.row.ensures history (agrees_there services c.args.place c.in-Some.service.now history agrees c.in-Some.ensures)))
