use Rattle.std.proofs.Common.{◌∙◌, sym, ap, option_map, Some}
use Rattle.supervise_core.specs.Service.{Supervised}
use Rattle.svscan_core.proofs.Found.{find_chart}
use Rattle.svscan_core.proofs.table.find_sid.Goals as goal

pub returns-in_err-find : goal.returns-in_err-find
returns-in_err-find g c =
    c.from_residual.ensures ∙ sym (find_chart c.args.name.now c.args.slots.now.services
    ∙ ap (option_map (λ (s : Supervised). s.chart.sid)) (sym c.in_err-find.ensures))

pub returns : goal.returns
returns g c =
    ap Some c.sid.ensures ∙ sym (find_chart c.args.name.now c.args.slots.now.services
    ∙ ap (option_map (λ (s : Supervised). s.chart.sid)) (sym c.in_ok-find.ensures))
