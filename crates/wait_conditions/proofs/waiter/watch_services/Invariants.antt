use Rattle.std.proofs.Common.{◌≡◌, ◌≤◌, [], length, map, take}
use Rattle.wait_conditions.specs.States.{state_in, state_over}
use Rattle.wait_conditions.specs.SupervisorState.{since_of}
use Rattle.wait_conditions.specs.Watched.{watched_as}
use Rattle.wait_conditions.proofs.waiter.watch_services.Given as goal

abbrev pub invariant-loop-sid : goal.invariant-loop-sid
invariant-loop-sid g l = record {
  watched : l.watched.items ≡ map (λ sid. watched_as l.condition sid (state_over sid l.moments (state_in l.states.runs sid)) (since_of sid []))
      (take l.sid-index l.sids);
  few : length l.watched.items ≤ l.sid-index;
}
