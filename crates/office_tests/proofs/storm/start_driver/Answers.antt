use denote.Exit.{no}
use denote.Param.Send.{IsSync, arg_send, param_send, param_sync, sendable, shr_send}
use Rattle.std.proofs.Common.{[], ◌∷◌}
use Rattle.std.proofs.Crossing.{crosses}
use Rattle.std.specs.contracts.sync.atomic.AtomicU64 as AtomicU64
use Rattle.tree_core.proofs.Crosses.{closure_send}
use Rattle.office.proofs.Crosses.{office_sync}
use Rattle.office_tests.proofs.storm.start_driver.Goals as goal

count_sync : IsSync AtomicU64.the_row
count_sync = search (crosses, sendable) depth 60 fits 20000

-- threads may share the office
pub spawn_scoped-requires-send-F : goal.spawn_scoped-requires-send-F
spawn_scoped-requires-send-F g c κs within =
    param_send 1 _ (arg_send _ no _ (closure_send _ (_ ∷ _ ∷ _ ∷ []) (
      shr_send _ _ _ (param_sync 4 _ c.type_bounds.sync-R),
      (
        shr_send _ _ _ (office_sync _ _ _ (record { seat_ring = λ x. g.C.Channels.seat_ring x; board = g.C.Channels.board }) _ _ _
            (param_send 1 _ c.type_bounds.send-C) (param_send 2 _ c.type_bounds.send-D) (param_send 3 _ c.type_bounds.send-B)),
        (shr_send _ _ _ count_sync, tt),
      ),
    )))
