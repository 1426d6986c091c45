use Rattle.std.proofs.Common.{◌≡◌, drop}
use Rattle.wait_conditions.specs.States.{state_in}
use Rattle.wait_conditions.proofs.service_states.state_of_service.Given as goal

abbrev pub invariant-loop-run : goal.invariant-loop-run
invariant-loop-run l = record {
  same : state_in l.runs l.fn.sid ≡ state_in (drop l.run-index l.runs) l.fn.sid;
}
