use Rattle.std.proofs.Common.{◌≡◌}
use Rattle.office.proofs.carrying.carry_many.Given as goal

abbrev pub invariant-loop : goal.invariant-loop
invariant-loop g l = (l.desk.lane ≡ l.initial.desk.lane) × (l.desk.given ≡ l.initial.desk.given)
