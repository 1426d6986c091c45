-- Which reports tell an end.
use Rattle.std.specs.Prelude.{Bool, true, false}
use Rattle.s6_events.specs.declared.report.Report.{Report}
use Rattle.s6_events.specs.declared.report.Report.TheVariants.{Started, StartFailed, Notify, Death, FinishEnded}

-- the report tells that a child has ended
abbrev pub is_end : Report → Bool
is_end (Started s g pid) = false
is_end (StartFailed s g) = false
is_end (Notify s g bytes) = false
is_end (Death s g exit) = true
is_end (FinishEnded s g exit) = true
