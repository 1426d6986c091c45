use Rattle.std.proofs.Common.{All, IsTrue, take}
use Rattle.s6_events.specs.Name.{is_name}
use Rattle.s6_script.proofs.act_limits.are_named.Given as goal

abbrev pub invariant-loop-name : goal.invariant-loop-name
invariant-loop-name l = All (λ name. IsTrue (is_name name)) (take l.name-index l.names)
