use Rattle.std.proofs.Common.{◌≡◌, ◌++◌, ◌+◌, ◌*◌, ◌≤◌, length, take, vec_capacity}
use Rattle.server_rules.specs.Recipients.{hand_all, tell_letter}
use Rattle.server_rules.proofs.recipients.tell_letters.Given as goal

-- what those before were handed
abbrev pub invariant-loop-event : goal.invariant-loop-event
invariant-loop-event l =
    (l.connections.items ≡ (hand_all (tell_letter l.at l.roster) (take l.event-index l.events) l.fn.connections.items).connections)
    × (l.posts.items ≡ l.fn.posts.items ++ (hand_all (tell_letter l.at l.roster) (take l.event-index l.events) l.fn.connections.items).posts)
    × (vec_capacity l.posts ≡ vec_capacity l.fn.posts)
    × (length l.posts.items ≤ length l.fn.posts.items + l.event-index * 11)
