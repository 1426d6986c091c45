use Rattle.std.proofs.Common.{◌≡◌, take}
use Rattle.std.specs.Prelude.{Some, slice_get, option_map}
use Rattle.supervise_core.specs.Service.{service_view}
use Rattle.svscan_core.specs.Moving.{with_changes}
use Rattle.svscan_core.proofs.moves.standing_at.Given as goal

abbrev pub invariant-loop-other : goal.invariant-loop-other
invariant-loop-other g l = Some l.standing ≡ option_map service_view
    (slice_get (with_changes l.slots.services (take l.other-index l.touched)) l.place)
