use Rattle.std.proofs.Common.{◌∙◌, arith}
use Rattle.server_rules.specs.Recipients.{tell_slot}
use Rattle.server_rules.proofs.Handing.{more}
use Rattle.server_rules.proofs.recipients.tell_slots.Goals as goal

pub loop-slot-preserved : goal.loop-slot-preserved
loop-slot-preserved c =
    let was = c.loop-slot.invariant in
    let next = more (tell_slot c.args.news.now) c.args.slots.now c.args.connections.now.items c.loop-slot.slot-index _ c.args.posts.now.items
    c.loop-slot.connections.items c.tell_slot.new.connections.items c.loop-slot.posts.items c.tell_slot.new.posts.items
    c.loop-slot-test.true was.0 was.1 c.tell_slot.ensures.connections c.tell_slot.ensures.posts in
    (next.connections, next.posts, c.tell_slot.ensures.room ∙ was.2, omega (arith, c.tell_slot.ensures.count, was.3))
