use Rattle.std.proofs.Common.{[], ◌∷◌}
use Rattle.std.proofs.alloc.Global.TheSendSync as global
use Rattle.std.proofs.sync.Mutex.TheSendSync as mutex
use denote.Exit.{no}
use denote.Param.Send.{param_send, param_sync, arg_send, shr_send}
use Rattle.tree_core.proofs.Crosses.{closure_send, tree_send}
use Rattle.office_tests.proofs.locked_tree.step_in_two_threads.Goals as goal

-- the lock and the allocator may go to the other thread
pub join-requires-send-F : goal.join-requires-send-F
join-requires-send-F g c κs within =
    param_send 1 _ (arg_send _ no _ (closure_send _ (_ ∷ _ ∷ _ ∷ []) (
      shr_send _ _ _ (param_sync 0 _ c.type_bounds.sync-R),
      (shr_send _ _ _ (mutex.the_sync _ tree_send), (global.the_send, tt)),
    )))
