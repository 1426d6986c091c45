-- What is stored of a waiter, and what one more moment makes of it.
use Rattle.std.specs.Prelude.{◌≡◌, ◌≤◌, ◌==◌, [], ◌∷◌, ◌++◌, if◌then◌else◌}
use Rattle.std.specs.Prelude.{ℕ, not, Bool, true, false, List, Option, Some, None, length, map, option_map, nat_le, fold, All}
use Rattle.std.specs.List.{list_any, filter_map}
use Rattle.s6_events.specs.declared.moment.Moment.{Moment}
use Rattle.s6_events.specs.declared.moment.Moment.TheVariants.{Clock, Event}
use Rattle.s6_events.specs.declared.condition.Condition.{Condition}
use Rattle.s6_events.specs.declared.condition.Mode.{Mode}
use Rattle.s6_events.specs.Newest.{mark_of}
use Rattle.wait_conditions.specs.declared.verdict.Verdict.{Verdict}
use Rattle.wait_conditions.specs.declared.verdict.WaitState.{WaitState}
use Rattle.wait_conditions.specs.declared.verdict.WaitState.TheVariants.{Waiting, Released}
use Rattle.wait_conditions.specs.declared.waiter.Waiter.{Waiter}
use Rattle.wait_conditions.specs.declared.watched_service.WatchedService.{WatchedService}
use Rattle.wait_conditions.specs.Counts.{counts_of, verdict_by}
use Rattle.wait_conditions.specs.Verdict.{reaches}
use Rattle.wait_conditions.specs.Watch.{new_release}
use Rattle.wait_conditions.specs.Watched.{watched_after}

-- a stored waiter: what it was made with, how many moments had come by then, what it knows of its services while it waits, and
-- its state
pub record StoredWaiter : Type 0 where
  pub id : ℕ
  pub condition : Condition
  pub mode : Mode
  pub deadline : Option ℕ
  pub place : ℕ
  pub watched : List WatchedService
  pub standing : WaitState

abbrev pub waiter_view : Waiter → StoredWaiter
waiter_view w = record {
  id = w.id;
  condition = w.condition;
  mode = w.mode;
  deadline = w.deadline;
  place = w.place;
  watched = w.watched.items;
  standing = w.standing;
}

-- a stored waiter that waits still
abbrev pub is_waiting : WaitState → Bool
is_waiting Waiting = true
is_waiting (Released v) = false

abbrev pub still_waits : StoredWaiter → Bool
still_waits k = is_waiting k.standing

-- a released waiter knows nothing of its services any more
abbrev pub watched_while : WaitState → List WatchedService → List WatchedService
watched_while Waiting ws = ws
watched_while (Released v) ws = []

-- a clock reading at or past the deadline, if there is one
abbrev pub late_at : Option ℕ → Moment → Bool
late_at None m = false
late_at (Some deadline) m = reaches deadline m

-- the moment is a mark of one of its services, or reaches its deadline
abbrev pub concerns : Moment → StoredWaiter → Bool
concerns (Clock at) k = late_at k.deadline (Clock at)
concerns (Event sid mark) k = list_any (λ w. w.sid == sid) k.watched

-- what it knows of its services after one more moment
abbrev pub watched_then : Moment → StoredWaiter → List WatchedService
watched_then m k = map (λ w. watched_after k.condition (mark_of w.sid m) w) k.watched

-- the waiter in this state; and in that of its verdict by what it knows, where the deadline has come or not
abbrev pub judged_as : WaitState → StoredWaiter → StoredWaiter
judged_as s k = record k { standing = s; watched = watched_while s k.watched }

abbrev pub judged : Bool → StoredWaiter → StoredWaiter
judged late k = judged_as (verdict_by k.mode (length k.watched) (counts_of k.watched) late) k

-- the waiter after one more moment: it takes the moment in, if it waits and the moment concerns it
abbrev pub with_moment_while : WaitState → Moment → StoredWaiter → StoredWaiter
with_moment_while Waiting m k = if concerns m k
    then judged (late_at k.deadline m) (record k { watched = watched_then m k }) else k
with_moment_while (Released v) m k = k

abbrev pub with_moment : Moment → StoredWaiter → StoredWaiter
with_moment m k = with_moment_while k.standing m k

-- after these moments, one after the other
abbrev pub with_moments : List Moment → StoredWaiter → StoredWaiter
with_moments [] k = k
with_moments (m ∷ ms) k = with_moments ms (with_moment m k)

-- the release that a moment brings
abbrev pub release_seen : Moment → StoredWaiter → Option (ℕ × Verdict)
release_seen m k = option_map (λ v. (k.id, v)) (new_release k.standing (with_moment m k).standing)

-- the releases that these moments bring, by moment and then in the order of the waiters
abbrev pub releases_seen : List Moment → List StoredWaiter → List (ℕ × Verdict)
releases_seen [] ks = []
releases_seen (m ∷ ms) ks = filter_map (release_seen m) ks ++ releases_seen ms (map (with_moment m) ks)

-- the state of the stored waiter of that serial, if there is one
abbrev pub standing_stored : ℕ → List Waiter → Option WaitState
standing_stored id [] = None
standing_stored id (w ∷ ws) = if w.id == id then Some w.standing else standing_stored id ws

abbrev pub standing_kept : ℕ → List StoredWaiter → Option WaitState
standing_kept id [] = None
standing_kept id (k ∷ ks) = if k.id == id then Some k.standing else standing_kept id ks

-- a stored waiter of another serial
abbrev pub is_other : ℕ → StoredWaiter → Bool
is_other id k = not (k.id == id)

-- the least place of those that wait still, if any does
abbrev pub lower : Option ℕ → ℕ → ℕ
lower None place = place
lower (Some other) place = if nat_le other place then other else place

abbrev pub older : Option ℕ → StoredWaiter → Option ℕ
older found k = if still_waits k then Some (lower found k.place) else found

abbrev pub oldest_place : List StoredWaiter → Option ℕ
oldest_place ks = fold older None ks

-- no waiter that waits still began before this place
abbrev pub NoneBegan : ℕ → List StoredWaiter → Type 0
NoneBegan place ks = All (λ k. still_waits k ≡ true → place ≤ k.place) ks
