-- A waiter that is made watches each of its services once, and has the next serial.
use Rattle.std.proofs.Common.{◌≡◌, ◌<◌, ◌≤◌, ◌==◌, ◌∙◌, ℕ, List, [], ◌∷◌, Bool, true, false, None, Some, All, map, refl, ap, length, arith}
use Rattle.std.specs.Prelude.{nat_lt, nat_le, if◌then◌else◌}
use Rattle.wait_conditions.specs.declared.add_fault.AddFault.TheVariants as fault
use Rattle.wait_conditions.specs.declared.supervisor_state.SupervisorState.{SupervisorState}
use Rattle.wait_conditions.specs.declared.verdict.WaitState.{WaitState}
use Rattle.wait_conditions.specs.declared.verdict.WaitState.TheVariants.{Waiting, Released}
use Rattle.wait_conditions.specs.declared.watched_service.WatchedService.{WatchedService}
use Rattle.wait_conditions.specs.Kept.{StoredWaiter, watched_while}
use Rattle.wait_conditions.specs.Refusal.{repeats_serial, waiter_limit, add_refusal}
use Rattle.wait_conditions.specs.Stands.{new_stored_waiter}
use Rattle.wait_conditions.specs.WaitsPlans.{ListChange, JoinsNext}
use Rattle.wait_conditions.specs.WaitsPlans.ListChange.{stay, join, leave}
use Rattle.wait_conditions.specs.SupervisorState.{since_of}
use Rattle.wait_conditions.specs.Verdict.{WaitTerms}
use Rattle.wait_conditions.specs.Watched.{watched_as}

repeats_by : (none repeats many full : Bool)
    → (if none then Some fault.Empty else if repeats then Some fault.Repeated else if many then Some fault.TooManyServices
    else if full then Some fault.TooMany else None) ≡ None → repeats ≡ false
repeats_by true repeats many full h = cc
repeats_by false true many full h = cc
repeats_by false false many full h = refl

pub none_repeats : (standing : ℕ) (sids : List ℕ) → add_refusal standing sids ≡ None → repeats_serial sids ≡ false
none_repeats standing sids h =
    repeats_by (length sids == 0) (repeats_serial sids) (nat_lt 16 (length sids)) (nat_le waiter_limit standing) h

named_alike : (asked : WaitTerms) (states : ℕ → SupervisorState) (sids : List ℕ)
    → map (λ (w : WatchedService). w.sid) (map (λ sid. watched_as asked.condition sid (states sid) (since_of sid [])) sids) ≡ sids
named_alike asked states [] = refl
named_alike asked states (sid ∷ sids) = ap (λ ss. sid ∷ ss) (named_alike asked states sids)

apart_while : (s : WaitState) (ws : List WatchedService) → repeats_serial (map (λ (w : WatchedService). w.sid) ws) ≡ false
    → repeats_serial (map (λ (w : WatchedService). w.sid) (watched_while s ws)) ≡ false
apart_while Waiting ws h = h
apart_while (Released v) ws h = refl

pub apart_new : (id place : ℕ) (asked : WaitTerms) (states : ℕ → SupervisorState) → repeats_serial asked.sids ≡ false
    → repeats_serial (map (λ (w : WatchedService). w.sid) (new_stored_waiter id place asked states).watched) ≡ false
apart_new id place asked states h =
    apart_while (new_stored_waiter id place asked states).standing
    (map (λ sid. watched_as asked.condition sid (states sid) (since_of sid [])) asked.sids)
    (ap repeats_serial (named_alike asked states asked.sids) ∙ h)

-- the next serial doesn't fall
pub next_on : (old new : ℕ) (change : ListChange) → JoinsNext old change new → old ≤ new
next_on old new stay h = let same : new ≡ old = h in omega (arith, same)
next_on old new (join k) h = let more = h.1 in omega (arith, more)
next_on old new (leave id) h = let same : new ≡ old = h in omega (arith, same)

-- what is below a bound is below a higher one
pub below_later : (n m : ℕ) (ks : List StoredWaiter) → n ≤ m → All (λ k. k.id < n) ks → All (λ k. k.id < m) ks
below_later n m ks le h = λ i d lt. let low = h i d lt in omega (arith, low, le)

pub placed_later : (n m : ℕ) (ks : List StoredWaiter) → n ≤ m → All (λ k. k.place ≤ n) ks → All (λ k. k.place ≤ m) ks
placed_later n m ks le h = λ i d lt. let low = h i d lt in omega (arith, low, le)
