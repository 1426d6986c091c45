use Rattle.std.proofs.Common.{◌∙◌, sym}
use Rattle.svscan_core.specs.Moving.{step_so_far}
use Rattle.svscan_core.proofs.Due.{empty_list, none_fires}
use Rattle.svscan_core.proofs.pending.fire_due.Goals as goal

pub returns-then-is_empty-clause-takes : goal.returns-then-is_empty-clause-takes
returns-then-is_empty-clause-takes g c =
    none_fires c.args.now c.args.due.now (step_so_far c.args.slots.now.services c.args.moves.now)
    (empty_list c.args.due.now (sym c.is_empty.ensures ∙ c.if-is_empty.true)) c.requires.due
