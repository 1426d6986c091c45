use Rattle.std.proofs.Common.{sym, ◌∙◌, arith}
use Rattle.server_rules.specs.Recipients.{tell_match}
use Rattle.server_rules.proofs.Handing.{more}
use Rattle.server_rules.proofs.recipients.tell_matches.Goals as goal

pub loop-found-preserved : goal.loop-found-preserved
loop-found-preserved c =
    let was = c.loop-found.invariant in
    let next = more tell_match c.args.matched.now c.args.connections.now.items c.loop-found.found-index c.found-item.result c.args.posts.now.items
    c.loop-found.connections.items c.tell_one.new.connections.items c.loop-found.posts.items c.tell_one.new.posts.items
    c.loop-found-test.true was.0 was.1 (rw (sym c.found-item.is) c.tell_one.ensures.connections)
    (rw (sym c.found-item.is) c.tell_one.ensures.posts) in
    (next.connections, next.posts, c.tell_one.ensures.room ∙ was.2, omega (arith, c.tell_one.ensures.count, was.3))
