-- The step that a record keeps.
use Rattle.std.specs.Prelude.{◌+◌, ◌≤◌, List, take, drop, length}
use Rattle.s6_events.specs.declared.order.Order.{Order}
use Rattle.tree_core.specs.Limits.{order_limit}
use Rattle.run_records.specs.declared.record.Record.{Record}
use Rattle.run_records.specs.Runs.{RunStep}

-- the step of a record, whose orders are a part of these
abbrev pub step_of : List Order → Record → RunStep
step_of orders one = record {
  input = one.input;
  outcome = record {
    reply = one.reply;
    events = one.events.items;
    orders = take one.count (drop one.first orders);
    matched = one.matched.items;
    released = one.released.items;
  };
}

-- its part lies within them, and is no more than those of one step
abbrev pub IsWithin : List Order → Record → Type 0
IsWithin orders one = (one.first + one.count ≤ length orders) × (one.count ≤ order_limit)
