use Rattle.std.proofs.Common.{◌≡◌, true, take}
use Rattle.std.specs.Prelude.{nat_lt}
use Rattle.std.specs.List.{list_all}
use Rattle.wait_conditions.proofs.service_states.place_of.Given as goal

abbrev pub invariant-loop-run : goal.invariant-loop-run
invariant-loop-run l = record {
  place : l.place ≡ l.run-index;
  before : list_all (λ r. nat_lt r.last l.fn.sid) (take l.run-index l.runs) ≡ true;
}
