use Rattle.std.proofs.Common.{◌≡◌, ℕ, ◌≤◌, List, length, take, drop}
use Rattle.s6_events.specs.declared.order.Order.{Order}
use Rattle.tree_core.specs.Limits.{order_limit}
use Rattle.step_codes.specs.ListCodes.{items_onto, list_onto, AllFit}
use Rattle.step_codes.specs.OrderCodes.{order_onto, FitsOrder}
use Rattle.step_codes.proofs.steps.take_orders.Given as goal

abbrev pub invariant-loop : goal.invariant-loop
invariant-loop l =
    (orders : List Order) (rest : List ℕ) → length orders ≤ order_limit → AllFit FitsOrder orders → l.fn.code ≡ list_onto order_onto orders rest
    → (l.count ≡ length orders) × (l.into.items ≡ take l.counter orders) × (l.code ≡ items_onto order_onto (drop l.counter orders) rest)
