-- What a contract sees of steps that are kept as they are, and what is true of them.
use Rattle.std.specs.Prelude.{◌-◌, map, All, vec_len, vec_capacity}
use Rattle.run_records.specs.declared.whole_steps.WholeSteps.TheInside.{Inside}
use Rattle.run_records.specs.Runs.{WholeView}
use Rattle.run_records.specs.WholeSteps.{IsWithin, step_of}

abbrev pub whole_view : Inside → WholeView
whole_view w = record {
  steps = map (step_of w.orders.items) w.records.items;
  room = vec_capacity w.records - vec_len w.records;
  order_room = vec_capacity w.orders - vec_len w.orders;
}

-- each record's part is one of the orders
abbrev pub AreSound : Inside → Type 0
AreSound w = All (IsWithin w.orders.items) w.records.items
