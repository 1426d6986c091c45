use Rattle.std.proofs.Common.{◌≡◌, take, drop, map}
use Rattle.server_rules.specs.Roster.{after_failed_start}
use Rattle.server_rules.proofs.roster.note_failed_start_in.Given as goal

-- those before have noted it, and the others are as they were
abbrev pub invariant-loop-member : goal.invariant-loop-member
invariant-loop-member l = record {
  rest : drop l.member-index l.members ≡ drop l.member-index l.fn.members;
  done : take l.member-index l.members ≡ map (after_failed_start l.sid) (take l.member-index l.fn.members);
}
