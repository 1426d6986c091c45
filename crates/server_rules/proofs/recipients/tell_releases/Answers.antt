use Rattle.std.proofs.Common.{sym, ◌∙◌, arith}
use Rattle.server_rules.specs.Recipients.{tell_release}
use Rattle.server_rules.proofs.Handing.{more}
use Rattle.server_rules.proofs.recipients.tell_releases.Goals as goal

pub loop-release-preserved : goal.loop-release-preserved
loop-release-preserved c =
    let was = c.loop-release.invariant in
    let next = more tell_release c.args.released.now c.args.connections.now.items c.loop-release.release-index c.release-item.result
    c.args.posts.now.items
    c.loop-release.connections.items c.tell_one.new.connections.items c.loop-release.posts.items c.tell_one.new.posts.items
    c.loop-release-test.true was.0 was.1 (rw (sym c.release-item.is) c.tell_one.ensures.connections)
    (rw (sym c.release-item.is) c.tell_one.ensures.posts) in
    (next.connections, next.posts, c.tell_one.ensures.room ∙ was.2, omega (arith, c.tell_one.ensures.count, was.3))
