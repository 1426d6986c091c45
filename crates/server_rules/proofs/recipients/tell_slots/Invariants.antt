use Rattle.std.proofs.Common.{◌≡◌, ◌++◌, ◌+◌, ◌≤◌, length, take, vec_capacity}
use Rattle.server_rules.specs.Recipients.{hand_all, tell_slot}
use Rattle.server_rules.proofs.recipients.tell_slots.Given as goal

-- what those before were handed
abbrev pub invariant-loop-slot : goal.invariant-loop-slot
invariant-loop-slot l =
    (l.connections.items ≡ (hand_all (tell_slot l.news) (take l.slot-index l.slots) l.fn.connections.items).connections)
    × (l.posts.items ≡ l.fn.posts.items ++ (hand_all (tell_slot l.news) (take l.slot-index l.slots) l.fn.connections.items).posts)
    × (vec_capacity l.posts ≡ vec_capacity l.fn.posts)
    × (length l.posts.items ≤ length l.fn.posts.items + l.slot-index)
