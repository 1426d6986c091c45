-- The services that scans added, and what their letters and reports say of them.
use Rattle.std.specs.Prelude.{ℕ, ◌==◌, Bool, true, false, List, [], ◌∷◌, Option, Some, None, fold, length, map, nat_lt, if◌then◌else◌}
use Rattle.std.specs.List.{find, flat_map, list_any}
use Rattle.s6_events.specs.declared.mark.Mark.{Mark}
use Rattle.s6_events.specs.declared.mark.Mark.TheVariants.{SupervisorStarted, Spawned, Died, PermanentFailure, SupervisorEnded}
use Rattle.s6_events.specs.declared.report.Report.{Report}
use Rattle.s6_events.specs.declared.report.Report.TheVariants as report
use Rattle.supervise_core.specs.declared.row.Row.{Row}
use Rattle.svscan_core.specs.declared.entry.Listed.{Listed}
use Rattle.svscan_core.specs.declared.entry.Listed.TheVariants as listed
use Rattle.svscan_core.specs.declared.event.Event.{Event}
use Rattle.server_rules.specs.declared.roster.Ending.{Ending}
use Rattle.server_rules.specs.declared.roster.Ending.TheVariants.{Failed, Gone}
use Rattle.server_rules.specs.declared.roster.Member.{Member}

-- how a service is over after this letter: `O` says that it failed for good, `x` that its supervisor has ended, `s` and `u` that it began
-- anew
abbrev pub ending_by : Mark → Option Ending → Option Ending
ending_by SupervisorStarted ending = None
ending_by Spawned ending = None
ending_by PermanentFailure ending = Some Failed
ending_by SupervisorEnded ending = Some Gone
ending_by mark ending = ending

-- since when a service is up or down after this letter at this moment: `s` says that it was neither, `u` and `d` that it is since now
abbrev pub since_by : ℕ → Mark → Option ℕ → Option ℕ
since_by at SupervisorStarted since = None
since_by at Spawned since = Some at
since_by at Died since = Some at
since_by at mark since = since

-- a service after a letter at this moment; a letter of another service changes nothing
abbrev pub after_letter : ℕ → Member → Event → Member
after_letter at m e =
    if e.sid == m.sid
    then record m { ending = ending_by e.mark m.ending; since = since_by at e.mark m.since; start_failed = false }
    else m

-- after the letters of a step, one after the other
abbrev pub after_letters : ℕ → List Event → Member → Member
after_letters at events m = fold (after_letter at) m events

-- a service after a report that a start of service `sid` failed
abbrev pub after_failed_start : ℕ → Member → Member
after_failed_start sid m = if m.sid == sid then record m { start_failed = true } else m

-- all services after a report of a lane
abbrev pub after_report : Report → List Member → List Member
after_report (report.StartFailed sid run) roster = map (after_failed_start sid) roster
after_report r roster = roster

-- the roster is so long that services without a row are to be forgotten
abbrev pub is_long : List Member → Bool
is_long roster = nat_lt 512 (length roster)

-- a service that a scan added
abbrev pub member_of : Listed → List Member
member_of (listed.Added sid name) = record { sid = sid; name = name; ending = None; since = None; start_failed = false } ∷ []
member_of l = []

abbrev pub added : List Listed → List Member
added listed = flat_map member_of listed

-- the service of this serial
abbrev pub member_in : ℕ → List Member → Option Member
member_in sid roster = find (λ m. m.sid == sid) roster

abbrev pub name_of : Option Member → List ℕ
name_of (Some m) = m.name
name_of None = 45 ∷ []

-- its name; a dash where no scan added it
abbrev pub name_in : ℕ → List Member → List ℕ
name_in sid roster = name_of (member_in sid roster)

abbrev pub ending_of : Option Member → Option Ending
ending_of (Some m) = m.ending
ending_of None = None

abbrev pub ending_in : ℕ → List Member → Option Ending
ending_in sid roster = ending_of (member_in sid roster)

abbrev pub since_of : Option Member → Option ℕ
since_of (Some m) = m.since
since_of None = None

-- the moment since which it is up or down
abbrev pub since_in : ℕ → List Member → Option ℕ
since_in sid roster = since_of (member_in sid roster)

abbrev pub start_failed_of : Option Member → Bool
start_failed_of (Some m) = m.start_failed
start_failed_of None = false

-- a start of it failed, and no letter of it came since
abbrev pub start_failed_in : ℕ → List Member → Bool
start_failed_in sid roster = start_failed_of (member_in sid roster)

-- it has a row
abbrev pub has_row : List Row → Member → Bool
has_row rows m = list_any (λ row. row.sid == m.sid) rows
