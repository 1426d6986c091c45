use Rattle.std.proofs.Common.{sym, ◌∙◌, arith}
use Rattle.server_rules.specs.Recipients.{tell_letter}
use Rattle.server_rules.proofs.Handing.{more}
use Rattle.server_rules.proofs.recipients.tell_letters.Goals as goal

pub loop-event-preserved : goal.loop-event-preserved
loop-event-preserved c =
    let was = c.loop-event.invariant in
    let next = more (tell_letter c.args.at c.args.roster.now) c.args.events.now c.args.connections.now.items c.loop-event.event-index
    c.event-item.result c.args.posts.now.items
    c.loop-event.connections.items c.tell_letter.new.connections.items c.loop-event.posts.items c.tell_letter.new.posts.items
    c.loop-event-test.true was.0 was.1 (rw (sym c.event-item.is) c.tell_letter.ensures.connections)
    (rw (sym c.event-item.is) c.tell_letter.ensures.posts) in
    (next.connections, next.posts, c.tell_letter.ensures.room ∙ was.2, omega (arith, c.tell_letter.ensures.count, was.3))
