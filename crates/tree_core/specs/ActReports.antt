-- The acts that tell a report.
use Rattle.std.specs.Prelude.{ℕ, Option, None, Some}
use Rattle.s6_events.specs.declared.report.Report.{Report}
use Rattle.s6_events.specs.declared.report.Report.TheVariants as reports
use Rattle.tree_core.specs.declared.input.Act.{Act}
use Rattle.tree_core.specs.declared.input.Act.TheVariants.{Started, StartFailed, Notify, Death, FinishEnded}

-- the report that an act tells, with the serial of the service that it names
abbrev pub report_in : {A : Type 0} → Act A → Option (ℕ × Report)
report_in (Started sid generation pid) = Some (sid, reports.Started sid generation pid)
report_in (StartFailed sid generation) = Some (sid, reports.StartFailed sid generation)
report_in (Notify sid generation bytes) = Some (sid, reports.Notify sid generation bytes)
report_in (Death sid generation exit) = Some (sid, reports.Death sid generation exit)
report_in (FinishEnded sid generation exit) = Some (sid, reports.FinishEnded sid generation exit)
report_in act = None
