use Rattle.std.proofs.Common.{◌≡◌}
use Rattle.child_runner.proofs.backend.ProcessBackend.go_over_all.Given as goal

-- nothing that was asked or given has changed
abbrev pub invariant-loop-step : goal.invariant-loop-step
invariant-loop-step g l = l.self ≡ l.fn.self
