-- A ring more.
use Rattle.std.proofs.Common.{◌≡◌, ◌⊎◌, ⊎_elim, List, [], ◌∷◌, ◌++◌, length, sym, ap, ◌∙◌}
use Rattle.order_lanes.specs.Lane.{LaneRingView, AreNumbered}
use Rattle.channel_names.proofs.Places.{get_last}

pub numbered_more : (rings : List LaneRingView) (ring : LaneRingView) → AreNumbered rings → ring.number ≡ length rings
    → AreNumbered (rings ++ ring ∷ [])
numbered_more rings ring each number k r at =
    ⊎_elim (λ e. each k r e) (λ t. ap (λ (x : LaneRingView). x.number) (sym t.1) ∙ (number ∙ t.0)) (get_last rings ring k r at)
