use Rattle.svscan_core.specs.Table.{charts_of, serials_of}
use Rattle.svscan_core.proofs.SerialsRise.{rising_before}
use Rattle.svscan_core.proofs.registry.Registry.after_timers.Goals as goal

pub after_timers-requires-clause-order : goal.after_timers-requires-clause-order
after_timers-requires-clause-order g c = rising_before
    (serials_of (charts_of c.self.inside.slots.services)) c.self.inside.next_sid c.self.invariant.order

pub returns-clause-agrees : goal.returns-clause-agrees
returns-clause-agrees g c = λ h at all. rw (← c.self.view_is) (c.after_timers.ensures.agrees h at (rw (← c.self.view_is) at all))
