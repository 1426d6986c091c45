use Rattle.std.proofs.Common.{◌∙◌, sym}
use Rattle.svscan_core.proofs.Found.{find_there, find_none}
use Rattle.svscan_core.proofs.table.get.Goals as goal

pub returns-in_err-place_of : goal.returns-in_err-place_of
returns-in_err-place_of g c = rw c.from_residual.ensures (sym (find_none c.args.slots.now.services c.args.sid c.in_err-place_of.ensures.none))

pub returns : goal.returns
returns g c =
    c.nth.ensures ∙ sym (find_there c.args.slots.now.services c.in_ok-place_of.field-0 c.args.sid c.requires c.in_ok-place_of.ensures.found)
