use Rattle.std.proofs.Common.{◌≡◌, ◌++◌, ◌+◌, ◌≤◌, length, take, vec_capacity}
use Rattle.server_rules.specs.Recipients.{hand_all, tell_release}
use Rattle.server_rules.proofs.recipients.tell_releases.Given as goal

-- what those before were handed
abbrev pub invariant-loop-release : goal.invariant-loop-release
invariant-loop-release l =
    (l.connections.items ≡ (hand_all tell_release (take l.release-index l.released) l.fn.connections.items).connections)
    × (l.posts.items ≡ l.fn.posts.items ++ (hand_all tell_release (take l.release-index l.released) l.fn.connections.items).posts)
    × (vec_capacity l.posts ≡ vec_capacity l.fn.posts)
    × (length l.posts.items ≤ length l.fn.posts.items + l.release-index)
