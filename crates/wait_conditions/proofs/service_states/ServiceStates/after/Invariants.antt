use Rattle.std.proofs.Common.{◌≡◌, drop}
use Rattle.wait_conditions.specs.States.{state_in, state_over}
use Rattle.wait_conditions.proofs.service_states.ServiceStates.after.Given as goal

abbrev pub invariant-loop-moment : goal.invariant-loop-moment
invariant-loop-moment g l = record {
  same : state_over l.sid l.moments (state_in l.self.runs l.sid) ≡ state_over l.sid (drop l.moment-index l.moments) l.state;
}
