-- Which reports a backend may give.
use Rattle.std.specs.Prelude.{ℕ, List, Bool, false, ◌==◌, ◌&&◌, IsTrue}
use Rattle.std.specs.List.{list_any}
use Rattle.s6_events.specs.declared.order.Order.{Order}
use Rattle.s6_events.specs.declared.order.Order.TheVariants.{Run, Finish, Signal, KillFinish}
use Rattle.s6_events.specs.declared.report.Report.{Report}
use Rattle.s6_events.specs.declared.report.Report.TheVariants.{Started, StartFailed, Notify, Death, FinishEnded}

-- the report is of `run` of this service and generation
abbrev pub is_of_run : ℕ → ℕ → Report → Bool
is_of_run sid generation (Started s g pid) = (s == sid) && (g == generation)
is_of_run sid generation (StartFailed s g) = (s == sid) && (g == generation)
is_of_run sid generation (Notify s g bytes) = (s == sid) && (g == generation)
is_of_run sid generation (Death s g exit) = (s == sid) && (g == generation)
is_of_run sid generation (FinishEnded s g exit) = false

-- the report is of `finish` of this service and generation
abbrev pub is_of_finish : ℕ → ℕ → Report → Bool
is_of_finish sid generation (Started s g pid) = false
is_of_finish sid generation (StartFailed s g) = (s == sid) && (g == generation)
is_of_finish sid generation (Notify s g bytes) = false
is_of_finish sid generation (Death s g exit) = false
is_of_finish sid generation (FinishEnded s g exit) = (s == sid) && (g == generation)

-- the report is of what the order starts; signals start nothing
abbrev pub answers : Order → Report → Bool
answers (Run sid generation name fd) report = is_of_run sid generation report
answers (Finish sid generation name code signal) report = is_of_finish sid generation report
answers (Signal sid generation number) report = false
answers (KillFinish sid generation) report = false

-- the report is of a program whose start was asked
unfoldable pub IsOfAsked : List Order → Report → Type 0
IsOfAsked asked report = IsTrue (list_any (λ order. answers order report) asked)
