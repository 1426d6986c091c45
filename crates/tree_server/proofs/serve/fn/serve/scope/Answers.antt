use denote.Param.Send.{param_send}
use Rattle.tree_server.proofs.serve.fn.serve.scope.Goals as goal

-- what the closure's types are bound to, behind a fact of each type's lifetime
pub start_all-requires-send-B : goal.start_all-requires-send-B
start_all-requires-send-B g c κs within = param_send 1 _ c.requires.1.1.1.1.1.0

pub start_all-requires-send-K : goal.start_all-requires-send-K
start_all-requires-send-K g c κs within = param_send 2 _ c.requires.1.1.1.1.1.1
