use Rattle.std.proofs.Common.{◌≡◌, ◌++◌, ◌+◌, ◌≤◌, length, take, vec_capacity}
use Rattle.server_rules.specs.Recipients.{hand_all, tell_match}
use Rattle.server_rules.proofs.recipients.tell_matches.Given as goal

-- what those before were handed
abbrev pub invariant-loop-found : goal.invariant-loop-found
invariant-loop-found l =
    (l.connections.items ≡ (hand_all tell_match (take l.found-index l.matched) l.fn.connections.items).connections)
    × (l.posts.items ≡ l.fn.posts.items ++ (hand_all tell_match (take l.found-index l.matched) l.fn.connections.items).posts)
    × (vec_capacity l.posts ≡ vec_capacity l.fn.posts)
    × (length l.posts.items ≤ length l.fn.posts.items + l.found-index)
