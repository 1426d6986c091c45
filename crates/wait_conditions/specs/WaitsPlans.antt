-- What a plan, or one request, makes of the waiters that are stored.
use Rattle.std.specs.Prelude.{◌≡◌, ℕ, ◌+◌, ◌*◌, ◌<◌, ◌≤◌, ◌^◌, List, [], ◌∷◌, ◌++◌, Option}
use Rattle.std.specs.Prelude.{length, map, filter, ⊤}
use Rattle.s6_events.specs.declared.moment.Moment.{Moment}
use Rattle.wait_conditions.specs.declared.verdict.Verdict.{Verdict}
use Rattle.wait_conditions.specs.declared.verdict.WaitState.TheVariants.{Waiting}
use Rattle.wait_conditions.specs.declared.wait_change.WaitAnswer.{WaitAnswer}
use Rattle.wait_conditions.specs.Kept.{StoredWaiter, with_moments, is_other}
use Rattle.wait_conditions.specs.States.{state_in, state_over}
use Rattle.wait_conditions.specs.Steps.WaitRequest.{add_one}
use Rattle.wait_conditions.specs.Steps.{WaitRequest, waits_after_moments, waits_after_change, wait_answer}
use Rattle.wait_conditions.specs.Verdict.{WaitTerms}
use Rattle.wait_conditions.specs.Watch.{Watch, new_release}
use Rattle.wait_conditions.specs.Watchers.{serials_where, touched_by}
use Rattle.wait_conditions.specs.Stands.{WaitsShown, StoredWaits, WaitsStandFor, new_stored_waiter}

-- what becomes of the list of waiters after the moments of a step
pub data ListChange : Type 0 where
  stay : ListChange
  join : StoredWaiter → ListChange
  leave : ℕ → ListChange

abbrev pub with_list_change : ListChange → List StoredWaiter → List StoredWaiter
with_list_change stay ks = ks
with_list_change (join k) ks = ks ++ k ∷ []
with_list_change (leave id) ks = filter (is_other id) ks

-- for how many more waiters there must be room
abbrev pub joining : ListChange → ℕ
joining (join k) = 1
joining change = 0

-- for how many more waiters a request may want room
abbrev pub adding : WaitRequest → ℕ
adding (add_one asked) = 1
adding request = 0

-- a plan of a step: its answers, the moments that come, the serials of the waiters that these touch, what then becomes of the list
-- of waiters, and the next serial
pub record PlannedWaits : Type 0 where
  pub released : List (ℕ × Verdict)
  pub answer : WaitAnswer
  pub moments : List Moment
  pub touched : List ℕ
  pub change : ListChange
  pub next : ℕ

-- what moments, and then a change of the list and a next serial, make of what is there
pub record MakesStep (ms : List Moment) (change : ListChange) (next : ℕ) (old new : WaitsShown) : Type 0 where
  pub count : new.count ≡ old.count + length ms
  pub states : (sid : ℕ) → state_in new.states sid ≡ state_over sid ms (state_in old.states sid)
  pub waiters : new.waiters ≡ with_list_change change (map (with_moments ms) old.waiters)
  pub next_is : new.next ≡ next

-- what a plan makes of what is there
abbrev pub MakesPlan : PlannedWaits → WaitsShown → WaitsShown → Type 0
MakesPlan p old new = MakesStep p.moments p.change p.next old new

-- a waiter that joins begins after all moments
abbrev pub JoinsAt : ℕ → ListChange → Type 0
JoinsAt count (join k) = k.place ≡ count
JoinsAt count change = ⊤

-- a waiter that joins takes the next serial
abbrev pub JoinsNext : ℕ → ListChange → ℕ → Type 0
JoinsNext old (join k) new = (k.id ≡ old) × (new ≡ old + 1)
JoinsNext old change new = new ≡ old

-- the plan fits what is there: there is room for it, and it names the waiters that its moments touch
pub record FitsWaits (p : PlannedWaits) (s : StoredWaits) : Type 0 where
  pub count : s.count + length p.moments < 2 ^ 63
  pub runs : 2 * length p.moments ≤ s.spare_runs
  pub waiters : joining p.change ≤ s.spare_waiters
  pub place : JoinsAt (s.count + length p.moments) p.change
  pub serial : JoinsNext s.next p.change p.next
  pub touched : p.touched ≡ serials_where (touched_by p.moments) s.waiters

-- after these moments, this change of the list and this next serial are what the request asks for, and this is the answer to it
pub record PlansChange (old : WaitsShown) (ms : List Moment) (request : WaitRequest) (told : WaitAnswer)
    (change : ListChange) (next : ℕ) : Type 0 where
  pub answer : (w : Watch) → WaitsStandFor old w → told ≡ wait_answer (waits_after_moments w ms) request
  pub stands : (w : Watch) → WaitsStandFor old w → (new : WaitsShown) → MakesStep ms change next old new
      → WaitsStandFor new (waits_after_change (waits_after_moments w ms) request)
  pub serial : next ≤ old.next + 1

-- what is stored once a waiter is made, and what is given for it
pub record AddsWaiter (old new : WaitsShown) (asked : WaitTerms) (id : ℕ) (given : Option Verdict) : Type 0 where
  pub count : new.count ≡ old.count
  pub states : new.states ≡ old.states
  pub waiters : new.waiters
      ≡ old.waiters ++ new_stored_waiter old.next old.count asked (state_in old.states) ∷ []
  pub next : new.next ≡ old.next + 1
  pub serial : id ≡ old.next
  pub verdict : given ≡ new_release Waiting
      (new_stored_waiter old.next old.count asked (state_in old.states)).standing

-- what is stored once a waiter is cancelled
pub record CancelsWaiter (old new : WaitsShown) (id : ℕ) : Type 0 where
  pub count : new.count ≡ old.count
  pub states : new.states ≡ old.states
  pub waiters : new.waiters ≡ filter (is_other id) old.waiters
  pub next : new.next ≡ old.next
