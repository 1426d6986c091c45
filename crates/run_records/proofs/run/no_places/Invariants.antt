use Rattle.std.proofs.Common.{◌≡◌, length}
use Rattle.run_records.specs.Runs.{AreEmpty}
use Rattle.run_records.proofs.run.no_places.Given as goal

abbrev pub invariant-loop : goal.invariant-loop
invariant-loop l = (length l.all.items ≡ l.counter) × AreEmpty l.all.items
