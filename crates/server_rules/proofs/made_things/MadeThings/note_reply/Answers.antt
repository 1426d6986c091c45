use Rattle.server_rules.proofs.Shorter.{ended_fits}
use Rattle.server_rules.proofs.made_things.MadeThings.note_reply.Goals as goal

pub invariant_of-self-in-Done : goal.invariant_of-self-in-Done
invariant_of-self-in-Done c =
    rw (c.drop_serial.ensures, c.drop_serial-in-Done.ensures)
    (ended_fits c.id-in-EndsWaiter.inside.0 c.self.inside.waiters.items c.self.inside.released.items c.self.invariant)
