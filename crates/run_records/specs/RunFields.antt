-- What a contract sees of the fields of a run, and what is true of them.
use Rattle.std.specs.Prelude.{◌≡◌, map, length}
use Rattle.run_records.specs.declared.run.Run.TheInside.{Inside}
use Rattle.run_records.specs.Runs.{RunView, ArePlaced}

abbrev pub run_view : Inside → RunView
run_view r = record {
  steps = r.log.steps;
  log = r.log;
  place_room = map (λ p. p.room) r.places.items;
}

-- each of 16 actors has the places of its steps
pub record IsSoundRun (r : Inside) : Type 0 where
  pub actors : length r.places.items ≡ 16
  pub placed : ArePlaced r.places.items r.log.steps
