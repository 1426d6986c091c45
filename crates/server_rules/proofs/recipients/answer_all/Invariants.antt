use Rattle.std.proofs.Common.{◌≡◌, ◌++◌, ◌+◌, ◌≤◌, length, take, vec_capacity}
use Rattle.server_rules.specs.Recipients.{hand_all, answer_at}
use Rattle.server_rules.proofs.recipients.answer_all.Given as goal

-- what those before were handed
abbrev pub invariant-loop-slot : goal.invariant-loop-slot
invariant-loop-slot l =
    (l.connections.items ≡ (hand_all (answer_at l.reply) (take l.slot-index l.slots) l.fn.connections.items).connections)
    × (l.posts.items ≡ l.fn.posts.items ++ (hand_all (answer_at l.reply) (take l.slot-index l.slots) l.fn.connections.items).posts)
    × (vec_capacity l.posts ≡ vec_capacity l.fn.posts)
    × (length l.posts.items ≤ length l.fn.posts.items + l.slot-index)
