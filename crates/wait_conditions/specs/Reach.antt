-- Which waiters some moments may touch.
use Rattle.std.specs.Prelude.{◌≡◌, ◌==◌, ℕ, false, List, if◌then◌else◌, ⊤}
use Rattle.s6_events.specs.declared.moment.Moment.{Moment}
use Rattle.wait_conditions.specs.declared.reach.Reach.{Reach}
use Rattle.wait_conditions.specs.declared.reach.Reach.TheVariants.{Nobody, WatchersOf, Anybody}
use Rattle.wait_conditions.specs.Kept.{StoredWaiter}
use Rattle.wait_conditions.specs.Watchers.{IsDueFrom, touched_by, watches}

-- after a mark of a service
abbrev pub with_service : ℕ → Reach → Reach
with_service sid Nobody = WatchersOf sid
with_service sid (WatchersOf other) = if other == sid then WatchersOf other else Anybody
with_service sid Anybody = Anybody

-- what a reach says of a waiter: these moments don't touch it, or they touch it just where it watches this service, or nothing
abbrev pub IsTouchedWithin : Reach → List Moment → StoredWaiter → Type 0
IsTouchedWithin Nobody ms k = touched_by ms k ≡ false
IsTouchedWithin (WatchersOf sid) ms k = touched_by ms k ≡ watches sid k
IsTouchedWithin Anybody ms k = ⊤

abbrev pub TouchWithin : ℕ → Reach → List Moment → Type 0
TouchWithin due reach ms = (k : StoredWaiter) → IsDueFrom due k → IsTouchedWithin reach ms k
