-- Which waiters watch which service, and which waiters some moments touch.
use Rattle.std.specs.Prelude.{◌≡◌, ◌≤◌, ◌<◌, ◌+◌, ◌==◌, ◌&&◌, [], ◌∷◌, ⊤}
use Rattle.std.specs.Prelude.{ℕ, Bool, true, List, length, map, filter, take, drop, get_or, All, IfSome, Option, Some, None, nat_lt, if◌then◌else◌}
use Rattle.std.specs.List.{list_any}
use Rattle.s6_events.specs.declared.moment.Moment.{Moment}
use Rattle.wait_conditions.specs.declared.watchers.Watcher.{Watcher}
use Rattle.wait_conditions.specs.Kept.{StoredWaiter, still_waits, concerns}

-- the watchers, and how many more fit without more memory
pub record WatcherList : Type 0 where
  pub watchers : List Watcher
  pub spare_capacity : ℕ

-- the serials of the waiters that watch a service, in the order of the list
abbrev pub serials_of : ℕ → List Watcher → List ℕ
serials_of sid ws = map (λ w. w.waiter) (filter (λ w. w.sid == sid) ws)

-- a waiter watches a service: it waits, and this is one of its services
abbrev pub watches : ℕ → StoredWaiter → Bool
watches sid k = still_waits k && list_any (λ w. w.sid == sid) k.watched

-- a moment touches a waiter: it waits, and the moment concerns it
abbrev pub touches : Moment → StoredWaiter → Bool
touches m k = still_waits k && concerns m k

-- one of these moments touches a waiter
abbrev pub touched_by : List Moment → StoredWaiter → Bool
touched_by ms k = list_any (λ m. touches m k) ms

-- the serials of the waiters that pass a test
abbrev pub serials_where : (StoredWaiter → Bool) → List StoredWaiter → List ℕ
serials_where p ks = map (λ k. k.id) (filter p ks)

-- at this place is the first of the waiters that pass a test, and `rest` has the serials of the others that pass
pub record IsFirst (p : StoredWaiter → Bool) (ks : List StoredWaiter) (rest : List ℕ) (place : ℕ) : Type 0 where
  pub within : place < length ks
  pub none_before : filter p (take place ks) ≡ []
  pub passes : (d : StoredWaiter) → p (get_or ks place d) ≡ true
  pub left : serials_where p (drop (place + 1) ks) ≡ rest

-- the watchers of each service are the waiters that watch it
abbrev pub AreIndexed : List Watcher → List StoredWaiter → Type 0
AreIndexed ws ks = (sid : ℕ) → serials_of sid ws ≡ serials_where (watches sid) ks

-- a waiter that waits has no deadline before this moment
abbrev pub IsDueFrom : ℕ → StoredWaiter → Type 0
IsDueFrom due k = still_waits k ≡ true → IfSome k.deadline (λ deadline. due ≤ deadline)

-- none of those that wait has a deadline before this moment
abbrev pub AreDueFrom : ℕ → List StoredWaiter → Type 0
AreDueFrom due ks = All (IsDueFrom due) ks

-- the earlier of a moment and a deadline, if there is one
abbrev pub earlier : ℕ → Option ℕ → ℕ
earlier due None = due
earlier due (Some deadline) = if nat_lt deadline due then deadline else due

-- each began no earlier than those before it
abbrev pub BeganInOrder : List StoredWaiter → Type 0
BeganInOrder [] = ⊤
BeganInOrder (k ∷ ks) = All (λ j. k.place ≤ j.place) ks × BeganInOrder ks
