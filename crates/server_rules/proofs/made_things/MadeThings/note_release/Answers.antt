use Rattle.std.proofs.Common.{rules}
use Rattle.server_rules.proofs.Shorter.{fits}
use Rattle.server_rules.proofs.made_things.MadeThings.note_release.Goals as goal

pub invariant_of-self : goal.invariant_of-self
invariant_of-self c =
    rw (c.drop_serial.ensures, c.push.ensures.items)
    (fits c.id.inside.0 c.self.inside.waiters.items c.self.inside.released.items
    (search (rules, c.requires, c.self.view_is, c.id.view_is)) c.self.invariant)
