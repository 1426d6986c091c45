use denote.Param.Send.{param_send}
use Rattle.refusal_trial.proofs.tree_run.fn.run_tree.scope.Goals as goal

-- what the closure's types are bound to, behind a fact of each type's lifetime
pub start_reader-requires-send-K : goal.start_reader-requires-send-K
start_reader-requires-send-K g c κs within = param_send 1 _ c.requires.1.1.1.1.1.0
