-- What each service in turn takes.
use Rattle.std.specs.Prelude.{ℕ}
use Rattle.supervise_core.specs.declared.chart_state.ChartState.{ChartState}
use Rattle.supervise_core.specs.ChartState.{Moved, no_move}
use Rattle.supervise_core.specs.Chart.{fire_move}
use Rattle.svscan_core.specs.declared.visit.Visit.{Visit}
use Rattle.svscan_core.specs.declared.visit.Visit.TheVariants.{Fire, Command, Look}
use Rattle.svscan_core.specs.Scan.{after_look}
use Rattle.svscan_core.specs.Work.{command_move}

-- the rule of its timer, a command to all services, or a look at its directory
abbrev pub visit_move : {A : Type 0} → Visit A → ℕ → ChartState → Moved
visit_move Fire now c = fire_move now c
visit_move (Command order) now c = command_move order now c
visit_move (Look listing) now c = no_move (after_look listing.now now c)
