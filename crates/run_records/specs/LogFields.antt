-- What a contract sees of a log, and what is true of it.
use Rattle.std.specs.Prelude.{◌-◌, map, All, vec_len, vec_capacity}
use Rattle.run_records.specs.declared.step_log.StepLog.TheInside.{Inside}
use Rattle.run_records.specs.Runs.{LogView}
use Rattle.run_records.specs.Log.{IsThere, step_at}

abbrev pub log_view : Inside → LogView
log_view l = record {
  steps = map (step_at l.codes.items l.whole.steps) l.starts.items;
  room = vec_capacity l.starts - vec_len l.starts;
  whole = l.whole;
}

-- each step is where its start says
abbrev pub IsSoundLog : Inside → Type 0
IsSoundLog l = All (IsThere l.codes.items l.whole.steps) l.starts.items
