use Rattle.std.proofs.Common.{[], ◌∷◌}
use denote.Exit.{no}
use denote.Param.Send.{param_send, param_sync, arg_send, shr_send}
use Rattle.tree_core.proofs.Crosses.{closure_send}
use Rattle.error_notes.proofs.Crosses.{notes_sync}
use Rattle.server_threads.proofs.Crosses.{outcome_sync, server_sync}
use Rattle.tree_server.proofs.Crosses.{parts_send}
use Rattle.tree_server.proofs.threads.start_driver.Goals as goal

-- what it works on goes with it, and all else is shared
pub spawn_scoped-requires-send-F : goal.spawn_scoped-requires-send-F
spawn_scoped-requires-send-F g c κs within =
    param_send 1 _ (arg_send _ no _ (closure_send _ (_ ∷ _ ∷ _ ∷ _ ∷ _ ∷ []) (
      shr_send _ _ _ (param_sync 3 _ c.type_bounds.sync-R),
      (
        shr_send _ _ _ server_sync,
        (
          parts_send _ _ (param_send 1 _ c.type_bounds.send-B) (param_send 2 _ c.type_bounds.send-W),
          (shr_send _ _ _ outcome_sync, (shr_send _ _ _ notes_sync, tt)),
        ),
      ),
    )))
