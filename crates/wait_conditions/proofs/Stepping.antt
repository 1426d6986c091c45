-- The moments of a step, one after the other.
use Rattle.std.proofs.Common.{◌≡◌, ◌≤◌, ◌+◌, ℕ, List, [], ◌∷◌, ◌++◌, All, arith, length, map, refl, sym, subst, ap, ◌∙◌}
use Rattle.std.proofs.Common.{option_map, length-append}
use Rattle.std.proofs.lemmas.List.Elements.{All-head, All-tail}
use Rattle.std.specs.List.{filter_map, cons_option}
use Rattle.s6_events.specs.Newest.{mark_of}
use Rattle.s6_events.specs.declared.moment.Moment.{Moment}
use Rattle.wait_conditions.specs.declared.supervisor_state.SupervisorState.{SupervisorState}
use Rattle.wait_conditions.specs.declared.verdict.Verdict.{Verdict}
use Rattle.wait_conditions.specs.Kept.{StoredWaiter, with_moment, with_moments, release_seen, releases_seen}
use Rattle.wait_conditions.specs.Planning.{AreReleasedAlike}
use Rattle.wait_conditions.specs.States.{state_in, state_over}
use Rattle.wait_conditions.specs.Stands.{WaitsShown, stored_waiter, WaitsStandFor}
use Rattle.wait_conditions.specs.Steps.{releases_by, waits_after_moments}
use Rattle.wait_conditions.specs.SupervisorState.{state_of, state_after}
use Rattle.wait_conditions.specs.Watch.{WrittenWaiter, Watch, waiter_state, new_release, release_of, releases, waits_after_moment}
use Rattle.wait_conditions.proofs.OneMore.{stored_waiter-push}
use Rattle.wait_conditions.proofs.Pushed.{state_of-push}

-- what is known of the services, the count and the stored waiters are those of the moments
pub record StandsBy (states : ℕ → SupervisorState) (count : ℕ) (ks : List StoredWaiter) (w : Watch) : Type 0 where
  pub count_is : length w.history ≡ count
  pub states_are : (sid : ℕ) → states sid ≡ state_of sid w.history
  pub waiters_are : ks ≡ map (stored_waiter w.history) w.waiters
  pub placed : All (λ p. p.place ≤ length w.history) w.waiters

pub stands_by : (s : WaitsShown) (w : Watch) → WaitsStandFor s w → StandsBy (state_in s.states) s.count s.waiters w
stands_by s w st = record { count_is = st.count; states_are = st.states; waiters_are = st.waiters; placed = st.placed }

pushed_all : (h : List Moment) (m : Moment) (ps : List WrittenWaiter) → All (λ p. p.place ≤ length h) ps
    → map (with_moment m) (map (stored_waiter h) ps) ≡ map (stored_waiter (h ++ m ∷ [])) ps
pushed_all h m [] a = refl
pushed_all h m (p ∷ ps) a =
    let one = stored_waiter-push h m p (All-head (λ q. q.place ≤ length h) p ps a) in
    let rest = pushed_all h m ps (All-tail (λ q. q.place ≤ length h) p ps a) in
    ap (λ k. k ∷ map (with_moment m) (map (stored_waiter h) ps)) (sym one) ∙ ap (λ ks. stored_waiter (h ++ m ∷ []) p ∷ ks) rest

pub released_all : (h : List Moment) (m : Moment) (ps : List WrittenWaiter) → All (λ p. p.place ≤ length h) ps
    → filter_map (release_seen m) (map (stored_waiter h) ps) ≡ filter_map (release_of h m) ps
released_all h m [] a = refl
released_all h m (p ∷ ps) a =
    let one = ap (λ (k : StoredWaiter). option_map (λ (v : Verdict). (p.id, v)) (new_release (waiter_state h p) k.standing))
    (sym (stored_waiter-push h m p (All-head (λ q. q.place ≤ length h) p ps a))) in
    let rest = released_all h m ps (All-tail (λ q. q.place ≤ length h) p ps a) in
    ap (λ o. cons_option o (filter_map (release_seen m) (map (stored_waiter h) ps))) one
    ∙ ap (λ rs. cons_option (release_of h m p) rs) rest

pub stands_moment : (st : ℕ → SupervisorState) (n : ℕ) (ks : List StoredWaiter) (w : Watch) (m : Moment) → StandsBy st n ks w
    → StandsBy (λ q. state_after (mark_of q m) (st q)) (n + 1) (map (with_moment m) ks) (waits_after_moment w m)
stands_moment st n ks w m s = record {
  count_is = length-append w.history (m ∷ []) ∙ ap (λ k. k + 1) s.count_is;
  states_are = λ q. ap (state_after (mark_of q m)) (s.states_are q) ∙ sym (state_of-push q w.history m);
  waiters_are = ap (map (with_moment m)) s.waiters_are ∙ pushed_all w.history m w.waiters s.placed;
  placed = λ k d h. omega (arith, s.placed k d h, length-append w.history (m ∷ []));
}

unmoved : (ks : List StoredWaiter) → map (with_moments []) ks ≡ ks
unmoved [] = refl
unmoved (k ∷ ks) = ap (λ js. k ∷ js) (unmoved ks)

pub one_then : (m : Moment) (ms : List Moment) (ks : List StoredWaiter)
    → map (with_moments ms) (map (with_moment m) ks) ≡ map (with_moments (m ∷ ms)) ks
one_then m ms [] = refl
one_then m ms (k ∷ ks) = ap (λ js. with_moments ms (with_moment m k) ∷ js) (one_then m ms ks)

by_parts : (st : ℕ → SupervisorState) (n n' : ℕ) (ks ks' : List StoredWaiter) (w : Watch) → n ≡ n' → ks ≡ ks' → StandsBy st n ks w
    → StandsBy st n' ks' w
by_parts st n n' ks ks' w e f s =
    subst (λ js. StandsBy st n' js w) f (subst (λ k. StandsBy st k ks w) e s)

pub stands_moments : (ms : List Moment) (st : ℕ → SupervisorState) (n : ℕ) (ks : List StoredWaiter) (w : Watch) → StandsBy st n ks w
    → StandsBy (λ q. state_over q ms (st q)) (n + length ms) (map (with_moments ms) ks) (waits_after_moments w ms)
stands_moments [] st n ks w s = by_parts st n (n + 0) ks (map (with_moments []) ks) w (omega arith) (sym (unmoved ks)) s
stands_moments (m ∷ ms) st n ks w s =
    by_parts (λ q. state_over q ms (state_after (mark_of q m) (st q))) (n + 1 + length ms) (n + length (m ∷ ms))
    (map (with_moments ms) (map (with_moment m) ks)) (map (with_moments (m ∷ ms)) ks) (waits_after_moments (waits_after_moment w m) ms)
    (omega arith) (one_then m ms ks)
    (stands_moments ms (λ q. state_after (mark_of q m) (st q)) (n + 1) (map (with_moment m) ks) (waits_after_moment w m)
    (stands_moment st n ks w m s))

-- the releases of stored waiters are those of the written ones
pub releases_are : (ms : List Moment) (st : ℕ → SupervisorState) (n : ℕ) (ks : List StoredWaiter) (w : Watch) → StandsBy st n ks w
    → releases_seen ms ks ≡ releases_by w ms
releases_are [] st n ks w s = refl
releases_are (m ∷ ms) st n ks w s =
    ap (λ rs. rs ++ releases_seen ms (map (with_moment m) ks))
    (ap (filter_map (release_seen m)) s.waiters_are ∙ released_all w.history m w.waiters s.placed)
    ∙ ap (λ rs. releases w m ++ rs)
    (releases_are ms (λ q. state_after (mark_of q m) (st q)) (n + 1) (map (with_moment m) ks) (waits_after_moment w m)
    (stands_moment st n ks w m s))

-- where no waiter stands, none is released
pub none_seen : (ms : List Moment) → releases_seen ms [] ≡ []
none_seen [] = refl
none_seen (m ∷ ms) = none_seen ms

-- the written waiters themselves are the same
pub same_waiters : (ms : List Moment) (w : Watch) → (waits_after_moments w ms).waiters ≡ w.waiters
same_waiters [] w = refl
same_waiters (m ∷ ms) w = same_waiters ms (waits_after_moment w m)

pub same_next : (ms : List Moment) (w : Watch) → (waits_after_moments w ms).next ≡ w.next
same_next [] w = refl
same_next (m ∷ ms) w = same_next ms (waits_after_moment w m)

-- lists of waiters that are released alike have the same releases
pub released_alike : (ms : List Moment) (ks js : List StoredWaiter) → AreReleasedAlike ms ks js → releases_seen ms ks ≡ releases_seen ms js
released_alike [] ks js a = refl
released_alike (m ∷ ms) ks js a =
    ap (λ rs. rs ++ releases_seen ms (map (with_moment m) ks)) a.0
    ∙ ap (λ rs. filter_map (release_seen m) js ++ rs) (released_alike ms (map (with_moment m) ks) (map (with_moment m) js) a.1)
