-- Waiters that can be left out when a step is worked out.
use Rattle.std.specs.Prelude.{◌≡◌, List, [], ◌∷◌, ⊤, map}
use Rattle.std.specs.List.{filter_map}
use Rattle.s6_events.specs.declared.moment.Moment.{Moment}
use Rattle.wait_conditions.specs.Kept.{StoredWaiter, with_moment, release_seen}

-- these moments bring two lists of waiters the same releases, moment by moment
abbrev pub AreReleasedAlike : List Moment → List StoredWaiter → List StoredWaiter → Type 0
AreReleasedAlike [] ks js = ⊤
AreReleasedAlike (m ∷ ms) ks js =
    (filter_map (release_seen m) ks ≡ filter_map (release_seen m) js)
    × AreReleasedAlike ms (map (with_moment m) ks) (map (with_moment m) js)
