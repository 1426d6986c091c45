use Rattle.std.proofs.Common.{◌≡◌, ◌++◌, take}
use Rattle.std.specs.List.{flat_map}
use Rattle.run_stories.specs.Words.{order_line}
use Rattle.run_stories.proofs.effect_words.push_orders.Given as goal

abbrev pub invariant-loop-order : goal.invariant-loop-order
invariant-loop-order g l = l.text.items ≡ l.fn.text.items ++ flat_map (order_line l.now l.rows) (take l.order-index l.orders)
