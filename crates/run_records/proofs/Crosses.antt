-- A run may go to another thread.
use denote.Param.Send.{IsSend, sendable}
use Rattle.std.proofs.Crossing.{crosses}
use Rattle.run_records.specs.contracts.run.Run as Run
use Rattle.run_records.specs.contracts.step_log.StepLog as StepLog
use Rattle.run_records.specs.contracts.whole_steps.WholeSteps as WholeSteps

whole_send : IsSend WholeSteps.the_row
whole_send = search (crosses, sendable) depth 60 fits 20000

log_send : IsSend StepLog.the_row
log_send = search (whole_send, crosses, sendable) depth 60 fits 20000

pub run_send : IsSend Run.the_row
run_send = search (log_send, crosses, sendable) depth 60 fits 20000
