use Rattle.std.proofs.Common.{ap}
use Rattle.event_directory.specs.Stored.{live_offset}
use Rattle.event_directory.proofs.Kept.{joined, joined_planned, joined_standing}
use Rattle.event_directory.proofs.directory.Directory.take_in.Goals as goal

pub invariant_of-self : goal.invariant_of-self
invariant_of-self g c =
    rw c.push_reserved.ensures.items
    (joined c.self.inside.text.items c.self.inside.heard c.self.inside.is_planned c.self.inside.planned.items _ c.self.inside.subscriptions.items
    c.new.result c.self.invariant (ap (λ r. live_offset r.reading) c.new.ensures.standing) (ap live_offset c.new.ensures.prepared)
    (ap live_offset c.new.ensures.planned))

pub returns-clause-planned : goal.returns-clause-planned
returns-clause-planned g c =
    rw (c.push_reserved.ensures.items, ← c.self.view_is)
    (joined_planned c.args.id (g.F.Finds.source c.args.pattern) c.args.repeats c.self.inside.is_planned _ c.self.inside.planned.items
    c.self.inside.subscriptions.items c.new.result c.new.ensures.standing c.new.ensures.planned)

pub returns-clause-after : goal.returns-clause-after
returns-clause-after g c =
    rw (c.push_reserved.ensures.items, ← c.self.view_is)
    (joined_standing c.args.id (g.F.Finds.source c.args.pattern) c.args.repeats _
    c.self.inside.subscriptions.items c.new.result c.new.ensures.standing)
