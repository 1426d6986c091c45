-- What an act that tells a report does, found in the table.
use Rattle.std.proofs.Common.{◌≡◌, ◌∙◌, ℕ, List, Bool, ◌==◌, Some, refl, sym, ap}
use Rattle.std.specs.List.{list_any}
use Rattle.std.proofs.lemmas.Option.{none-some}
use Rattle.s6_events.specs.declared.moment.Moment.{Moment}
use Rattle.s6_events.specs.declared.report.Report.{Report}
use Rattle.s6_events.specs.declared.report.Report.TheVariants as reports
use Rattle.supervise_core.specs.Service.{Supervised}
use Rattle.supervise_core.specs.declared.change.Change.TheVariants as changes
use Rattle.svscan_core.specs.Table.{charts_of}
use Rattle.tree_core.specs.declared.input.Act.{Act}
use Rattle.tree_core.specs.declared.input.Act.TheVariants.{Scan, Scanctl, Svc, Started, StartFailed, Notify, Death}
use Rattle.tree_core.specs.declared.input.Act.TheVariants.{FinishEnded, Status, Tally, Permafailon, Wait, Cancel}
use Rattle.tree_core.specs.declared.input.Act.TheVariants.{Subscribe, Unsubscribe, Send, MakeDir, Tick}
use Rattle.tree_core.specs.ActReports.{report_in}
use Rattle.tree_core.specs.Choices.{Chosen, report_choice}
use Rattle.tree_core.specs.Machine.{Machine}
use Rattle.tree_core.specs.Plan.{Chooses, HasFired}
use Rattle.tree_core.proofs.Choosing.{chooses_report}

-- what is chosen for a report to a service, by what is there
abbrev pub told_choice : List Supervised → ℕ × Report → Chosen
told_choice services told = report_choice (list_any (λ c. c.sid == told.0) (charts_of services)) told.0 (changes.Report told.1)

-- the same, where the report is this one
as_told : (services : List Supervised) (told this : ℕ × Report) (chosen : Chosen) → Some this ≡ Some told
    → chosen ≡ told_choice services told → chosen ≡ told_choice services this
as_told services told this chosen e is = is ∙ ap (told_choice services) (sym (cc e))

module _ {A : Type 0} (m : Machine) (closing : Bool) (now : ℕ) (services : List Supervised) (history : List Moment) (chosen : Chosen) where
  -- an act that tells a report chooses that
  pub chooses_told : (act : Act A) (told : ℕ × Report) → report_in act ≡ Some told → chosen ≡ told_choice services told
      → HasFired closing now services history m → Chooses act m services chosen
  chooses_told (Started sid generation pid) told e is fired = chooses_report (Started sid generation pid) m sid
      (changes.Report (reports.Started sid generation pid)) closing now services history chosen refl refl refl refl (λ w. refl)
      (as_told services told (sid, reports.Started sid generation pid) chosen e is) fired
  chooses_told (StartFailed sid generation) told e is fired = chooses_report (StartFailed sid generation) m sid
      (changes.Report (reports.StartFailed sid generation)) closing now services history chosen refl refl refl refl (λ w. refl)
      (as_told services told (sid, reports.StartFailed sid generation) chosen e is) fired
  chooses_told (Notify sid generation bytes) told e is fired = chooses_report (Notify sid generation bytes) m sid
      (changes.Report (reports.Notify sid generation bytes)) closing now services history chosen refl refl refl refl (λ w. refl)
      (as_told services told (sid, reports.Notify sid generation bytes) chosen e is) fired
  chooses_told (Death sid generation exit) told e is fired = chooses_report (Death sid generation exit) m sid
      (changes.Report (reports.Death sid generation exit)) closing now services history chosen refl refl refl refl (λ w. refl)
      (as_told services told (sid, reports.Death sid generation exit) chosen e is) fired
  chooses_told (FinishEnded sid generation exit) told e is fired = chooses_report (FinishEnded sid generation exit) m sid
      (changes.Report (reports.FinishEnded sid generation exit)) closing now services history chosen refl refl refl refl (λ w. refl)
      (as_told services told (sid, reports.FinishEnded sid generation exit) chosen e is) fired
  chooses_told (Scan listing) told e is fired = absurd (none-some told e)
  chooses_told (Scanctl order) told e is fired = absurd (none-some told e)
  chooses_told (Svc name letters) told e is fired = absurd (none-some told e)
  chooses_told (Status name) told e is fired = absurd (none-some told e)
  chooses_told (Tally name) told e is fired = absurd (none-some told e)
  chooses_told (Permafailon name seconds count items) told e is fired = absurd (none-some told e)
  chooses_told (Wait condition mode timeout names) told e is fired = absurd (none-some told e)
  chooses_told (Cancel id) told e is fired = absurd (none-some told e)
  chooses_told (Subscribe target pattern repeats) told e is fired = absurd (none-some told e)
  chooses_told (Unsubscribe id) told e is fired = absurd (none-some told e)
  chooses_told (Send target message) told e is fired = absurd (none-some told e)
  chooses_told (MakeDir name) told e is fired = absurd (none-some told e)
  chooses_told Tick told e is fired = absurd (none-some told e)
