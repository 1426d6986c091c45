-- What the waiters know of their services, tied to what the tree keeps.
use Rattle.std.specs.Prelude.{◌≡◌, ℕ, ◌-◌, List, [], drop, true, false, All}
use Rattle.s6_events.specs.declared.moment.Moment.{Moment}
use Rattle.wait_conditions.specs.declared.watched_service.WatchedService.{WatchedService}
use Rattle.wait_conditions.specs.Kept.{StoredWaiter, still_waits}
use Rattle.wait_conditions.specs.States.{state_in}
use Rattle.wait_conditions.specs.SupervisorState.{since_of}
use Rattle.wait_conditions.specs.Watched.{watched_as}
use Rattle.tree_core.specs.StandsFor.{StoredTree}

-- the moments that the history keeps from a place on
abbrev pub kept_from : StoredTree → ℕ → List Moment
kept_from t place = drop (place - t.forgotten) t.kept

-- what a waiter is to know of a service: what is known of the service now, and what the kept moments say of it since the waiter began
abbrev pub known_of : StoredTree → StoredWaiter → ℕ → WatchedService
known_of t k sid =
    watched_as k.condition sid (state_in t.waits.states sid) (since_of sid (kept_from t k.place))

-- a waiter that knows just that of each of its services
abbrev pub KnowsJustThat : StoredTree → StoredWaiter → Type 0
KnowsJustThat t k = All (λ w. w ≡ known_of t k w.sid) k.watched

-- each waiter that waits still knows just that, and one that was released knows nothing any more
pub record IsTied (t : StoredTree) : Type 0 where
  pub waiting : All (λ k. still_waits k ≡ true → KnowsJustThat t k) t.waits.waiters
  pub released : All (λ k. still_waits k ≡ false → k.watched ≡ []) t.waits.waiters
