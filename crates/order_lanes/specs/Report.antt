-- The act by which the tree is told a report.
use Rattle.std.specs.declared.alloc.Global.{Global}
use Rattle.tree_core.specs.declared.input.Act.{Act}
use Rattle.tree_core.specs.declared.input.Act.TheVariants as act
use Rattle.s6_events.specs.declared.report.Report.{Report}
use Rattle.s6_events.specs.declared.report.Report.TheVariants.{Started, StartFailed, Notify, Death, FinishEnded}

-- the act with the same fields
abbrev pub act_of : Report → Act Global
act_of (Started sid generation pid) = act.Started sid generation pid
act_of (StartFailed sid generation) = act.StartFailed sid generation
act_of (Notify sid generation bytes) = act.Notify sid generation bytes
act_of (Death sid generation exit) = act.Death sid generation exit
act_of (FinishEnded sid generation exit) = act.FinishEnded sid generation exit
