use Rattle.std.proofs.Common.{◌≡◌, take, drop, map}
use Rattle.server_rules.specs.Roster.{after_letters}
use Rattle.server_rules.proofs.roster.note_all.Given as goal

-- those before have noted the letters, and the others are as they were
abbrev pub invariant-loop-member : goal.invariant-loop-member
invariant-loop-member l = record {
  rest : drop l.member-index l.members ≡ drop l.member-index l.fn.members;
  done : take l.member-index l.members ≡ map (after_letters l.at l.events) (take l.member-index l.fn.members);
}
