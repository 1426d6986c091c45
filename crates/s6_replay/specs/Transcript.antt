-- What is printed for a step.
use Rattle.std.specs.Prelude.{ℕ, ◌+◌, List, [], ◌∷◌, ◌++◌, decimal}
use Rattle.std.specs.List.{flat_map}
use Rattle.tree_core.specs.declared.reply.Reply.{Reply}
use Rattle.tree_core.specs.Machine.{Outcome}
use Rattle.s6_script.specs.ReplyText.{reply_text}
use Rattle.s6_script.specs.EffectLines.{event_line, order_line, match_line, release_line}

-- the line of a reply, under its number
abbrev pub reply_line : {A : Type 0} → ℕ → Reply A → List ℕ
reply_line n reply = ((decimal n ++ (32 ∷ [])) ++ reply_text reply) ++ 10 ∷ []

-- the block of a step: its reply, events, orders, matches and releases
abbrev pub block : {A : Type 0} → ℕ → Outcome A → List ℕ
block n o =
    reply_line n o.reply ++ flat_map event_line o.events ++ flat_map order_line o.orders
    ++ flat_map match_line o.matched ++ flat_map release_line o.released

-- the blocks of steps, numbered from n on
abbrev pub blocks : {A : Type 0} → ℕ → List (Outcome A) → List ℕ
blocks n [] = []
blocks n (o ∷ os) = block n o ++ blocks (n + 1) os
