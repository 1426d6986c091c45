use Rattle.std.proofs.Common.{◌∙◌, arith}
use Rattle.server_rules.specs.Recipients.{answer_at}
use Rattle.server_rules.proofs.Handing.{more}
use Rattle.server_rules.proofs.recipients.answer_all.Goals as goal

pub loop-slot-preserved : goal.loop-slot-preserved
loop-slot-preserved c =
    let was = c.loop-slot.invariant in
    let next = more (answer_at c.args.reply.now) c.args.slots.now c.args.connections.now.items c.loop-slot.slot-index _ c.args.posts.now.items
    c.loop-slot.connections.items c.answer_one.new.connections.items c.loop-slot.posts.items c.answer_one.new.posts.items
    c.loop-slot-test.true was.0 was.1 c.answer_one.ensures.connections c.answer_one.ensures.posts in
    (next.connections, next.posts, c.answer_one.ensures.room ∙ was.2, omega (arith, c.answer_one.ensures.count, was.3))
