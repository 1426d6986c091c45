use Rattle.std.proofs.Common.{◌≡◌, ◌∙◌, refl, rules, slice_get, sym, Some}
use Rattle.svscan_core.specs.Table.{charts_of, serials_of}
use Rattle.svscan_core.proofs.Found.{serial_read, is_the_serial}
use Rattle.svscan_core.proofs.place.is_at.Goals as goal

pub returns-clause-found : goal.returns-clause-found
returns-clause-found g c = λ h.
    let own : c.args.sid ≡ c.in-Some.service.now.chart.sid = search rules in
    serial_read c.args.slots.now.services c.args.place c.args.sid c.in-Some.service.now (search rules) own

pub returns-clause-other : goal.returns-clause-other
returns-clause-other g c = λ h.
    let there : slice_get (serials_of (charts_of c.args.slots.now.services)) c.args.place ≡ Some c.in-Some.service.now.chart.sid =
    serial_read c.args.slots.now.services c.args.place c.in-Some.service.now.chart.sid c.in-Some.service.now (search rules) refl in
    is_the_serial c.in-Some.service.now.chart.sid c.args.sid c.sid.result c.eq.result c.eq.ensures c.sid.ensures (sym there ∙ h)
