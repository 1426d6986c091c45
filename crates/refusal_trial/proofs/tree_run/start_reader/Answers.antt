use Rattle.std.proofs.Common.{[], ◌∷◌}
use denote.Exit.{no}
use denote.Param.Send.{param_send, arg_send, shr_send}
use Rattle.tree_core.proofs.Crosses.{closure_send}
use Rattle.error_notes.proofs.Crosses.{notes_sync}
use Rattle.server_threads.proofs.Crosses.{shared_sync}
use Rattle.refusal_trial.proofs.Crosses.{places_sync}
use Rattle.refusal_trial.proofs.tree_run.start_reader.Goals as goal

-- the reader goes with it, and all else is shared
pub spawn_scoped-requires-send-F : goal.spawn_scoped-requires-send-F
spawn_scoped-requires-send-F g c κs within =
    param_send 1 _ (arg_send _ no _ (closure_send _ (_ ∷ _ ∷ _ ∷ _ ∷ []) (
      param_send 1 _ c.type_bounds.send-K,
      (
        shr_send _ _ _ shared_sync,
        (shr_send _ _ _ places_sync, (shr_send _ _ _ notes_sync, tt)),
      ),
    )))
