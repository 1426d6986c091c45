-- Which act a told one stands for.
use Rattle.std.specs.declared.alloc.Global.{Global}
use Rattle.tree_core.specs.declared.input.Act.{Act}
use Rattle.tree_core.specs.declared.input.Act.TheVariants as act
use Rattle.step_codes.specs.declared.kept_input.ToldAct.{ToldAct}
use Rattle.step_codes.specs.declared.kept_input.ToldAct.TheVariants as told

abbrev pub act_of_told : ToldAct → Act Global
act_of_told told.Tick = act.Tick
act_of_told (told.Started sid generation pid) = act.Started sid generation pid
act_of_told (told.StartFailed sid generation) = act.StartFailed sid generation
act_of_told (told.Death sid generation exit) = act.Death sid generation exit
act_of_told (told.FinishEnded sid generation exit) = act.FinishEnded sid generation exit
