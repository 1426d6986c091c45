use denote.Exit.{no}
use denote.Param.Send.{arg_send, param_send}
use Rattle.child_runner.proofs.Crosses.{program_backend_send}
use Rattle.child_trial.proofs.main.Goals as goal

-- a backend of processes may go to the thread of its lane
pub start_lane-requires-send-B : goal.start_lane-requires-send-B
start_lane-requires-send-B g c κs = param_send 0 _ (arg_send _ no _ program_backend_send)
