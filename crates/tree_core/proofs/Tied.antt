-- What the waiters know of their services is tied to what the tree keeps.
use Rattle.std.proofs.Common.{◌≡◌, ◌∙◌, ◌≤◌, ℕ, List, [], ◌∷◌, true, false, All, refl, sym, ap, subst, arith, map, take, drop}
use Rattle.std.proofs.lemmas.List.{take-append-drop}
use Rattle.std.proofs.lemmas.List.Elements.{All-cons, All-head, All-tail}
use Rattle.s6_events.specs.declared.condition.Condition.{Condition}
use Rattle.s6_events.specs.declared.moment.Moment.{Moment}
use Rattle.wait_conditions.specs.declared.supervisor_state.SupervisorState.{SupervisorState}
use Rattle.wait_conditions.specs.declared.verdict.WaitState.{WaitState}
use Rattle.wait_conditions.specs.declared.verdict.WaitState.TheVariants.{Waiting, Released}
use Rattle.wait_conditions.specs.declared.watched_service.WatchedService.{WatchedService}
use Rattle.wait_conditions.specs.Kept.{StoredWaiter, NoneBegan, is_waiting, still_waits}
use Rattle.wait_conditions.specs.Stands.{stored_as, stored_waiter}
use Rattle.wait_conditions.specs.States.{state_in}
use Rattle.wait_conditions.specs.SupervisorState.{state_of, since_of}
use Rattle.wait_conditions.specs.Watch.{WrittenWaiter, waiter_state}
use Rattle.wait_conditions.specs.Watched.{watched_as, watched_over}
use Rattle.wait_conditions.proofs.Oldest.{all_needed}
use Rattle.tree_core.specs.Machine.{Machine}
use Rattle.tree_core.specs.StandsFor.{StoredTree, StandsFor, IsCut}
use Rattle.tree_core.specs.Tied.{KnowsJustThat, IsTied}
use Rattle.tree_core.proofs.Stand.{dropped_more}

-- what all moments say of a service is what is known of it now, and what those since a place say is all that else is needed
services_tied : (h : List Moment) (known : ℕ → SupervisorState) (c : Condition) (place : ℕ) (sids : List ℕ)
    → ((sid : ℕ) → known sid ≡ state_of sid h)
    → All (λ w. w ≡ watched_as c w.sid (known w.sid) (since_of w.sid (drop place h))) (map (watched_over c (take place h) (drop place h)) sids)
services_tied h known c place [] say = λ k d lt. absurd (omega (arith, lt))
services_tied h known c place (sid ∷ sids) say =
    All-cons (λ (w : WatchedService). w ≡ watched_as c w.sid (known w.sid) (since_of w.sid (drop place h)))
    (watched_over c (take place h) (drop place h) sid) (map (watched_over c (take place h) (drop place h)) sids)
    (ap (λ st. watched_as c sid st (since_of sid (drop place h))) (ap (state_of sid) (take-append-drop place h) ∙ sym (say sid)))
    (services_tied h known c place sids say)

-- a waiter that waits still, whose place is not forgotten
waiter_tied : (t : StoredTree) (h : List Moment) (p : WrittenWaiter) (s : WaitState) → ((sid : ℕ) → state_in t.waits.states sid ≡ state_of sid h)
    → drop t.forgotten h ≡ t.kept → (is_waiting s ≡ true → t.forgotten ≤ p.place) → is_waiting s ≡ true
    → KnowsJustThat t (stored_as s h p)
waiter_tied t h p Waiting say kept began waits =
    subst (λ (ms : List Moment). All (λ w. w ≡ watched_as p.asked.condition w.sid (state_in t.waits.states w.sid) (since_of w.sid ms))
    (map (watched_over p.asked.condition (take p.place h) (drop p.place h)) p.asked.sids))
    (dropped_more t.forgotten p.place t.kept h kept (began waits))
    (services_tied h (state_in t.waits.states) p.asked.condition p.place p.asked.sids say)
waiter_tied t h p (Released v) say kept began waits = cc

waiters_tied : (t : StoredTree) (h : List Moment) (ps : List WrittenWaiter) → ((sid : ℕ) → state_in t.waits.states sid ≡ state_of sid h)
    → drop t.forgotten h ≡ t.kept → NoneBegan t.forgotten (map (stored_waiter h) ps)
    → All (λ k. still_waits k ≡ true → KnowsJustThat t k) (map (stored_waiter h) ps)
waiters_tied t h [] say kept began = λ k d lt. absurd (omega (arith, lt))
waiters_tied t h (p ∷ ps) say kept began =
    All-cons (λ (k : StoredWaiter). still_waits k ≡ true → KnowsJustThat t k) (stored_waiter h p) (map (stored_waiter h) ps)
    (waiter_tied t h p (waiter_state h p) say kept
    (All-head (λ (k : StoredWaiter). still_waits k ≡ true → t.forgotten ≤ k.place) (stored_waiter h p) (map (stored_waiter h) ps) began))
    (waiters_tied t h ps say kept
    (All-tail (λ (k : StoredWaiter). still_waits k ≡ true → t.forgotten ≤ k.place) (stored_waiter h p) (map (stored_waiter h) ps) began))

-- one that was released
released_knows : (h : List Moment) (p : WrittenWaiter) (s : WaitState) → is_waiting s ≡ false → (stored_as s h p).watched ≡ []
released_knows h p Waiting e = cc
released_knows h p (Released v) e = refl

all_released : (h : List Moment) (ps : List WrittenWaiter) → All (λ k. still_waits k ≡ false → k.watched ≡ []) (map (stored_waiter h) ps)
all_released h [] = λ k d lt. absurd (omega (arith, lt))
all_released h (p ∷ ps) =
    All-cons (λ (k : StoredWaiter). still_waits k ≡ false → k.watched ≡ []) (stored_waiter h p) (map (stored_waiter h) ps)
    (released_knows h p (waiter_state h p)) (all_released h ps)

-- where the tree stands for a machine and its history is cut where moments are needed
pub is_tied : (t : StoredTree) (m : Machine) → StandsFor t m → IsCut t → IsTied t
is_tied t m s cut =
    let waiters = s.waiting.waiters in
    let none : NoneBegan t.forgotten t.waits.waiters =
    subst (λ n. NoneBegan n t.waits.waiters) (sym cut.cut) (all_needed t.waits.waiters t.waits.count) in
    record {
      waiting = subst (λ (ks : List StoredWaiter). All (λ k. still_waits k ≡ true → KnowsJustThat t k) ks) (sym waiters)
          (waiters_tied t m.history m.waiters s.waiting.states s.kept
          (subst (λ (ks : List StoredWaiter). NoneBegan t.forgotten ks) waiters none));
      released = subst (λ (ks : List StoredWaiter). All (λ k. still_waits k ≡ false → k.watched ≡ []) ks) (sym waiters)
          (all_released m.history m.waiters);
    }
