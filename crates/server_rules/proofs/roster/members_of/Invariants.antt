use Rattle.std.proofs.Common.{◌≡◌, take}
use Rattle.server_rules.specs.Roster.{added}
use Rattle.server_rules.proofs.roster.members_of.Given as goal

abbrev pub invariant-loop-one : goal.invariant-loop-one
invariant-loop-one l = (l.members.items ≡ added (take l.one-index l.listed))
