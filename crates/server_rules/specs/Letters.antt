-- A letter of a service, as it is told to a follower.
use Rattle.std.specs.Prelude.{ℕ, List, [], ◌∷◌, ◌++◌, codes, decimal}
use Rattle.s6_events.specs.Mark.{letter_of}
use Rattle.svscan_core.specs.declared.event.Event.{Event}
use Rattle.server_rules.specs.declared.letters.ToldLetter.{ToldLetter}
use Rattle.server_rules.specs.declared.roster.Member.{Member}
use Rattle.server_rules.specs.Roster.{name_in}

-- the moment of its step, the serial and the name of its service, and the letter
abbrev pub told_letter : ℕ → List Member → Event → ToldLetter
told_letter at roster e = record { at = at; sid = e.sid; name = name_in e.sid roster; mark = e.mark }

-- its line
abbrev pub letter_line : ToldLetter → List ℕ
letter_line l =
    codes "e " ++ (decimal l.at ++ (32 ∷ (decimal l.sid ++ (32 ∷ (l.name ++ (32 ∷ letter_of l.mark ∷ 10 ∷ []))))))
