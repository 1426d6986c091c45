use Rattle.std.proofs.Common.{◌≡◌, map}
use Rattle.order_lanes.proofs.probe.ProbeBackend.report.Given as goal

-- nothing was given yet
abbrev pub invariant-loop : goal.invariant-loop
invariant-loop g l = (l.self-inside.asked.items ≡ l.fn.self.asked) × (map (λ s. s.value) l.self-inside.given.items ≡ l.fn.self.given)
