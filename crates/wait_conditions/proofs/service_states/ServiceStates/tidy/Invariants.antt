use Rattle.std.proofs.Common.{◌≡◌, ◌≤◌, ℕ}
use Rattle.wait_conditions.specs.States.{state_in}
use Rattle.wait_conditions.proofs.service_states.ServiceStates.tidy.Given as goal

abbrev pub invariant-loop-offset : goal.invariant-loop-offset
invariant-loop-offset g l = record {
  states : (sid : ℕ) → state_in l.self.runs sid ≡ state_in l.fn.self.runs sid;
  room : l.fn.self.spare_capacity ≤ l.self.spare_capacity;
}
