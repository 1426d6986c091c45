use Rattle.std.proofs.Common.{◌≡◌, take}
use Rattle.server_rules.specs.Roster.{after_letters}
use Rattle.server_rules.proofs.roster.Member.note.Given as goal

-- those before were noted
abbrev pub invariant-loop-event : goal.invariant-loop-event
invariant-loop-event l = (l.self ≡ after_letters l.at (take l.event-index l.events) l.fn.self)
