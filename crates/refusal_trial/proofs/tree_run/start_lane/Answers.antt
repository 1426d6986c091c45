use Rattle.std.proofs.Common.{[], ◌∷◌}
use denote.Exit.{no}
use denote.Param.Send.{param_send, param_sync, arg_send, shr_send}
use Rattle.tree_core.proofs.Crosses.{closure_send}
use Rattle.child_runner.proofs.Crosses.{link_sync}
use Rattle.server_threads.proofs.Crosses.{shared_sync}
use Rattle.refusal_trial.proofs.Crosses.{worker_send}
use Rattle.refusal_trial.proofs.tree_run.start_lane.Goals as goal

-- the worker goes with it, and all else is shared
pub spawn_scoped-requires-send-F : goal.spawn_scoped-requires-send-F
spawn_scoped-requires-send-F g c κs within =
    param_send 1 _ (arg_send _ no _ (closure_send _ (_ ∷ _ ∷ _ ∷ _ ∷ []) (
      shr_send _ _ _ (param_sync 1 _ c.type_bounds.sync-R),
      (
        shr_send _ _ _ shared_sync,
        (shr_send _ _ _ link_sync, (worker_send, tt)),
      ),
    )))
