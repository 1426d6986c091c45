use Rattle.std.proofs.Common.{[], ◌∷◌}
use denote.Exit.{no}
use denote.Param.Send.{param_send, arg_send, shr_send}
use Rattle.tree_core.proofs.Crosses.{closure_send}
use Rattle.error_notes.proofs.Crosses.{notes_sync}
use Rattle.server_threads.proofs.Crosses.{server_sync}
use Rattle.refusal_trial.proofs.Crosses.{parts_send, end_sync}
use Rattle.refusal_trial.proofs.tree_run.start_driver.Goals as goal

-- what the driver takes over goes with it, and all else is shared
pub spawn_scoped-requires-send-F : goal.spawn_scoped-requires-send-F
spawn_scoped-requires-send-F g c κs within =
    param_send 1 _ (arg_send _ no _ (closure_send _ (_ ∷ _ ∷ _ ∷ _ ∷ _ ∷ []) (
      shr_send _ _ _ c.type_bounds.sync-R,
      (
        shr_send _ _ _ server_sync,
        (
          parts_send _ c.type_bounds.send-R,
          (shr_send _ _ _ end_sync, (shr_send _ _ _ notes_sync, tt)),
        ),
      ),
    )))
