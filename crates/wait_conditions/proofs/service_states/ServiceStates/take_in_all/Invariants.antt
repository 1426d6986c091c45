use Rattle.std.proofs.Common.{◌≡◌, ◌≤◌, ◌*◌, ◌+◌, ℕ, drop, length}
use Rattle.wait_conditions.specs.States.{state_in, state_over}
use Rattle.wait_conditions.proofs.service_states.ServiceStates.take_in_all.Given as goal

abbrev pub invariant-loop-moment : goal.invariant-loop-moment
invariant-loop-moment g l = record {
  states : (sid : ℕ) → state_over sid l.moments (state_in l.fn.self.runs sid)
      ≡ state_over sid (drop l.moment-index l.moments) (state_in l.self.runs sid);
  room : 2 * length l.moments ≤ l.self.spare_capacity + 2 * l.moment-index;
}
