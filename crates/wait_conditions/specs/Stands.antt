-- Which waiters, as they are written down, the stored ones stand for.
use Rattle.std.specs.Prelude.{◌≡◌, ℕ, ◌<◌, ◌≤◌, List, [], false, Option, Some, None}
use Rattle.std.specs.Prelude.{All, length, map, take, drop}
use Rattle.s6_events.specs.Rising.{AreRising}
use Rattle.s6_events.specs.declared.moment.Moment.{Moment}
use Rattle.wait_conditions.specs.declared.service_states.StateRun.{StateRun}
use Rattle.wait_conditions.specs.declared.supervisor_state.SupervisorState.{SupervisorState}
use Rattle.wait_conditions.specs.declared.verdict.WaitState.{WaitState}
use Rattle.wait_conditions.specs.declared.verdict.WaitState.TheVariants.{Waiting}
use Rattle.wait_conditions.specs.Kept.{StoredWaiter, watched_while, judged, oldest_place}
use Rattle.wait_conditions.specs.States.{state_in}
use Rattle.wait_conditions.specs.SupervisorState.{state_of, since_of}
use Rattle.wait_conditions.specs.Verdict.{WaitTerms}
use Rattle.wait_conditions.specs.Watch.{WrittenWaiter, Watch, waiter_serials, waiter_state}
use Rattle.wait_conditions.specs.Watched.{watched_as, watched_over}

-- how many moments came, what is known of the services, the waiters and the next serial
pub record WaitsShown : Type 0 where
  pub count : ℕ
  pub states : List StateRun
  pub waiters : List StoredWaiter
  pub next : ℕ

-- the same, and how many more waiters and runs fit without more memory
pub record StoredWaits : Type 0 where
  pub count : ℕ
  pub states : List StateRun
  pub waiters : List StoredWaiter
  pub next : ℕ
  pub spare_waiters : ℕ
  pub spare_runs : ℕ

-- the list of waiters, and how many more fit without more memory
pub record StoredList : Type 0 where
  pub waiters : List StoredWaiter
  pub spare : ℕ

-- all but the room
abbrev pub waits_shown : StoredWaits → WaitsShown
waits_shown s = record { count = s.count; states = s.states; waiters = s.waiters; next = s.next }

-- the place from which on moments are needed: that of the oldest waiter that waits still, and the end where none does
abbrev pub place_or_end : Option ℕ → ℕ → ℕ
place_or_end None count = count
place_or_end (Some place) count = place

abbrev pub needed_from : WaitsShown → ℕ
needed_from s = place_or_end (oldest_place s.waiters) s.count

-- what is to be stored of a waiter in this state
abbrev pub stored_as : WaitState → List Moment → WrittenWaiter → StoredWaiter
stored_as standing history p = record {
  id = p.id;
  condition = p.asked.condition;
  mode = p.asked.mode;
  deadline = p.asked.deadline;
  place = p.place;
  watched = watched_while standing
      (map (watched_over p.asked.condition (take p.place history) (drop p.place history)) p.asked.sids);
  standing = standing;
}

-- what is to be stored of a waiter, once these moments have come
abbrev pub stored_waiter : List Moment → WrittenWaiter → StoredWaiter
stored_waiter history p = stored_as (waiter_state history p) history p

-- what is shown stands for these waiters: it counts their moments, it has of each service and of each waiter what these moments say,
-- each waiter began by now, and their serials rise and are below the next one
pub record WaitsStandFor (s : WaitsShown) (w : Watch) : Type 0 where
  pub count : length w.history ≡ s.count
  pub states : (sid : ℕ) → state_in s.states sid ≡ state_of sid w.history
  pub waiters : s.waiters ≡ map (stored_waiter w.history) w.waiters
  pub next : w.next ≡ s.next
  pub placed : All (λ p. p.place ≤ length w.history) w.waiters
  pub rising : AreRising (waiter_serials w.waiters)
  pub below : All (λ p. p.id < w.next) w.waiters

-- what is there stands for these waiters
abbrev pub WaitsFor : StoredWaits → Watch → Type 0
WaitsFor s w = WaitsStandFor (waits_shown s) w

-- a waiter as it is made: it knows what is known of its services, and takes its verdict at once
abbrev pub new_stored_waiter : ℕ → ℕ → WaitTerms → (ℕ → SupervisorState) → StoredWaiter
new_stored_waiter id place asked states = judged false (record {
  id = id;
  condition = asked.condition;
  mode = asked.mode;
  deadline = asked.deadline;
  place = place;
  watched = map (λ sid. watched_as asked.condition sid (states sid) (since_of sid [])) asked.sids;
  standing = Waiting;
})
