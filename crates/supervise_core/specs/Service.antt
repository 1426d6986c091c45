-- What a contract sees of a service, and the histories that agree with it.
use Rattle.std.specs.Prelude.{◌≡◌, ℕ, ◌++◌, List, Bool, true, false, Option, None, Some}
use Rattle.death_tally.specs.LastDeaths.{Deaths, with_death}
use Rattle.s6_events.specs.declared.exit.Exit.{Exit}
use Rattle.s6_events.specs.declared.mark.Mark.{Mark}
use Rattle.s6_events.specs.declared.moment.Moment.{Moment}
use Rattle.s6_events.specs.Clock.{clock_of}
use Rattle.supervise_core.specs.declared.change.Change.{Change}
use Rattle.s6_events.specs.declared.report.Report.TheVariants.{Death}
use Rattle.supervise_core.specs.declared.change.Change.TheVariants.{Report}
use Rattle.supervise_core.specs.declared.chart_state.ChartState.{ChartState}
use Rattle.supervise_core.specs.declared.row.Status.{Status}
use Rattle.supervise_core.specs.Status.{Agrees, mark_moments}

-- its state, what it stores of its marks, and its tally
pub record Supervised : Type 0 where
  pub chart : ChartState
  pub status : Status
  pub tally : Deaths

-- a service without its tally
pub record ServiceView : Type 0 where
  pub chart : ChartState
  pub status : Status

abbrev pub service_view : Supervised → ServiceView
service_view s = record { chart = s.chart; status = s.status }

-- the death that was reported at this moment, unless the report was stale
abbrev pub death_unless : Bool → ℕ → Exit → Option (ℕ × Exit)
death_unless false now exit = Some (now, exit)
death_unless true now exit = None

-- the death of a change
abbrev pub death_by : Change → Bool → ℕ → Option (ℕ × Exit)
death_by (Report (Death sid generation exit)) stale now = death_unless stale now exit
death_by change stale now = None

-- the tally, with a death more where there is one
abbrev pub tally_with : Deaths → Option (ℕ × Exit) → Deaths
tally_with tally None = tally
tally_with tally (Some death) = with_death tally death

-- the service takes over this state and this status, and a death joins its tally
abbrev pub with_view : ServiceView → Option (ℕ × Exit) → Supervised → Supervised
with_view standing death s = record
    { chart = standing.chart; status = standing.status; tally = tally_with s.tally death }

-- a history agrees with all that is stored of the marks
abbrev pub AgreesAs : ServiceView → List Moment → Type 0
AgreesAs s history = Agrees s.chart.sid s.status history

abbrev pub AgreesWith : Supervised → List Moment → Type 0
AgreesWith s history = AgreesAs (service_view s) history

-- whatever history agreed before, at this moment, agrees again once the marks have joined it
abbrev pub KeepsAgreeing : ℕ → List Mark → ServiceView → ServiceView → Type 0
KeepsAgreeing now marks old new =
    (history : List Moment) → clock_of history ≡ now → AgreesAs old history
    → AgreesAs new (history ++ mark_moments old.chart.sid marks)
