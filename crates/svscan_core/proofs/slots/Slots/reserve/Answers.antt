use Rattle.svscan_core.proofs.slots.Slots.reserve.Goals as goal

pub invariant_of-self : goal.invariant_of-self
invariant_of-self g c = rw c.reserve.ensures.rest_kept c.self.invariant

pub invariant_of-self-in_err-reserve-2 : goal.invariant_of-self-in_err-reserve-2
invariant_of-self-in_err-reserve-2 g c = rw (c.reserve.ensures.rest_kept, c.reserve-2.ensures.entries) c.self.invariant

pub invariant_of-self-2 : goal.invariant_of-self-2
invariant_of-self-2 g c = rw (c.reserve.ensures.rest_kept, c.reserve-2.ensures.entries) c.self.invariant
