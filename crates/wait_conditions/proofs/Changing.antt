-- The change of a step, after its moments.
use Rattle.std.proofs.Common.{◌≡◌, ◌<◌, ◌≤◌, ◌+◌, ℕ, List, [], ◌∷◌, ◌++◌, Bool, Option, Some, None, is_some, All, arith, length, map}
use Rattle.std.proofs.Common.{refl, sym, subst, ap, ◌∙◌, append-nil, option_map, find, false}
use Rattle.std.proofs.lemmas.List.{drop_all, take_all, map-append}
use Rattle.std.proofs.lemmas.List.Elements.{All-push}
use Rattle.std.specs.List.{filter_map}
use Rattle.s6_events.specs.Rising.{AreRising}
use Rattle.s6_events.proofs.Rising.{rising_push}
use Rattle.s6_events.specs.declared.moment.Moment.{Moment}
use Rattle.s6_events.specs.declared.condition.Condition.{Condition}
use Rattle.wait_conditions.specs.declared.add_fault.AddFault.{AddFault}
use Rattle.wait_conditions.specs.declared.supervisor_state.SupervisorState.{SupervisorState}
use Rattle.wait_conditions.specs.declared.verdict.Verdict.{Verdict}
use Rattle.wait_conditions.specs.declared.verdict.WaitState.TheVariants.{Waiting}
use Rattle.wait_conditions.specs.declared.wait_change.WaitAnswer.TheVariants as answer
use Rattle.wait_conditions.specs.Kept.{StoredWaiter, standing_kept, judged, with_moments, release_seen}
use Rattle.wait_conditions.specs.Refusal.{add_refusal}
use Rattle.wait_conditions.specs.States.{state_in, state_over}
use Rattle.wait_conditions.specs.Stands.{WaitsShown, stored_waiter, WaitsStandFor, new_stored_waiter}
use Rattle.wait_conditions.specs.WaitsPlans.{MakesStep, PlansChange, AddsWaiter}
use Rattle.wait_conditions.specs.WaitsPlans.ListChange.{stay, join, leave}
use Rattle.wait_conditions.specs.Steps.{WaitRequest, waits_after_moments, with_waiter_unless, answer_to_add}
use Rattle.wait_conditions.specs.SupervisorState.{state_of, since_of}
use Rattle.wait_conditions.specs.Verdict.{WaitTerms}
use Rattle.wait_conditions.specs.Watch.{Watch, is_waiter_of, waiter_state, new_waiter, new_release, after_add, releases, waits_after_moment}
use Rattle.wait_conditions.specs.Watched.{watched_as, watched_over}
use Rattle.wait_conditions.proofs.Named.{count_is, result_is, cancels_after, stands_still}
use Rattle.wait_conditions.proofs.OneMore.{begins_waiting}
use Rattle.wait_conditions.proofs.Stepping.{stands_by, stands_moments, same_waiters, same_next, released_all}

-- moments alone
pub stands_step : (s new : WaitsShown) (ms : List Moment) → MakesStep ms stay s.next s new → (w : Watch) → WaitsStandFor s w
    → WaitsStandFor new (waits_after_moments w ms)
stands_step s new ms t w st =
    let by = stands_moments ms (state_in s.states) s.count s.waiters w (stands_by s w st) in
    let same = same_waiters ms w in
    let next = same_next ms w in
    record {
      count = by.count_is ∙ sym t.count;
      states = λ sid. t.states sid ∙ by.states_are sid;
      waiters = t.waiters ∙ by.waiters_are;
      next = next ∙ (st.next ∙ sym t.next_is);
      placed = by.placed;
      rising = subst (λ ps. AreRising (map (λ p. p.id) ps)) (sym same) st.rising;
      below = subst (λ n. All (λ p. p.id < n) (waits_after_moments w ms).waiters) (sym next)
          (subst (λ ps. All (λ p. p.id < w.next) ps) (sym same) st.below);
    }

-- what is there between the moments and the change
abbrev pub between : WaitsShown → WaitsShown → List Moment → WaitsShown
between s new ms = record {
  count = new.count;
  states = new.states;
  waiters = map (with_moments ms) s.waiters;
  next = s.next;
}

between_stands : (s new : WaitsShown) (ms : List Moment) → new.count ≡ s.count + length ms
    → ((sid : ℕ) → state_in new.states sid ≡ state_over sid ms (state_in s.states sid)) → (w : Watch) → WaitsStandFor s w
    → WaitsStandFor (between s new ms) (waits_after_moments w ms)
between_stands s new ms count states w st =
    stands_step s (between s new ms) ms (record { count = count; states = states; waiters = refl; next_is = refl }) w st

known_all : (c : Condition) (h : List Moment) (st : ℕ → SupervisorState) → ((sid : ℕ) → st sid ≡ state_of sid h) → (sids : List ℕ)
    → map (λ sid. watched_as c sid (st sid) (since_of sid [])) sids ≡ map (watched_over c h []) sids
known_all c h st same [] = refl
known_all c h st same (sid ∷ sids) =
    ap (λ x. watched_as c sid x (since_of sid []) ∷ map (λ q. watched_as c q (st q) (since_of q [])) sids)
    (same sid ∙ ap (state_of sid) (sym (append-nil h)))
    ∙ ap (λ ws. watched_over c h [] sid ∷ ws) (known_all c h st same sids)

-- a waiter that begins is stored as it is to be
pub begun_is : (st : ℕ → SupervisorState) (id place : ℕ) (w : Watch) (asked : WaitTerms) → w.next ≡ id → length w.history ≡ place
    → ((sid : ℕ) → st sid ≡ state_of sid w.history)
    → new_stored_waiter id place asked st ≡ stored_waiter w.history (new_waiter w asked)
begun_is st id place w asked serial count same =
    let h = w.history in
    rw (take_all (length h) h (omega arith), drop_all (length h) h (omega arith))
    ((λ i. judged false (record {
      id = sym serial i;
      condition = asked.condition;
      mode = asked.mode;
      deadline = asked.deadline;
      place = sym count i;
      watched = known_all asked.condition h st same asked.sids i;
      standing = Waiting;
    }))
    ∙ sym (begins_waiting (new_waiter w asked) h))

-- with one more waiter
pub joined : (s : WaitsShown) (k : StoredWaiter) → WaitsShown
joined s k = record { count = s.count; states = s.states; waiters = s.waiters ++ k ∷ []; next = s.next + 1 }

pub adds_after : (s new : WaitsShown) (k : StoredWaiter) (asked : WaitTerms) → new.count ≡ s.count
    → ((sid : ℕ) → state_in new.states sid ≡ state_in s.states sid) → new.waiters ≡ s.waiters ++ k ∷ [] → new.next ≡ s.next + 1
    → (w : Watch) → WaitsStandFor s w → k ≡ stored_waiter w.history (new_waiter w asked) → WaitsStandFor new (after_add w asked)
adds_after s new k asked count states waiters next w st one = record {
  count = st.count ∙ sym count;
  states = λ sid. states sid ∙ st.states sid;
  waiters = waiters ∙ (ap (λ ks. ks ++ k ∷ []) st.waiters
      ∙ (ap (λ j. map (stored_waiter w.history) w.waiters ++ j ∷ []) one
      ∙ sym (map-append (stored_waiter w.history) w.waiters (new_waiter w asked ∷ []))));
  next = ap (λ n. n + 1) st.next ∙ sym next;
  placed = All-push (λ p. p.place ≤ length w.history) w.waiters (new_waiter w asked) st.placed (omega arith);
  rising = subst AreRising (sym (map-append (λ p. p.id) w.waiters (new_waiter w asked ∷ [])))
      (rising_push (λ p. p.id) w.next w.waiters st.rising st.below);
  below = All-push (λ p. p.id < w.next + 1) w.waiters (new_waiter w asked) (λ k d h. omega (arith, st.below k d h)) (omega arith);
}

pub added_is : (s : WaitsShown) (w : Watch) (asked : WaitTerms) → WaitsStandFor s w
    → new_stored_waiter s.next s.count asked (state_in s.states) ≡ stored_waiter w.history (new_waiter w asked)
added_is s w asked st = begun_is (state_in s.states) s.next s.count w asked st.next st.count st.states

-- the single call
pub makes_waiter : (s new : WaitsShown) (asked : WaitTerms) (id : ℕ) (given : Option Verdict) → AddsWaiter s new asked id given → (w : Watch)
    → WaitsStandFor s w
    → (id ≡ w.next) × (given ≡ new_release Waiting (waiter_state w.history (new_waiter w asked))) × WaitsStandFor new (after_add w asked)
makes_waiter s new asked id given t w st = (
  t.serial ∙ sym st.next,
  t.verdict ∙ ap (λ (k : StoredWaiter). new_release Waiting k.standing) (added_is s w asked st),
  adds_after s new _ asked t.count (λ sid. ap (λ runs. state_in runs sid) t.states) t.waiters t.next w st (added_is s w asked st),
)

-- the single call, by what is stored
pub admits : (s old new : WaitsShown) (asked : WaitTerms) (k : StoredWaiter) (v : Option Verdict) → s ≡ old → new.count ≡ s.count
    → new.states ≡ s.states → new.waiters ≡ s.waiters ++ k ∷ [] → new.next ≡ s.next + 1
    → k ≡ new_stored_waiter s.next s.count asked (state_in s.states) → v ≡ new_release Waiting k.standing
    → AddsWaiter old new asked s.next v
admits s old new asked k v same count states waiters next is told =
    subst (λ o. AddsWaiter o new asked s.next v) same (record {
      count = count;
      states = states;
      waiters = waiters ∙ ap (λ j. s.waiters ++ j ∷ []) is;
      next = next;
      serial = refl;
      verdict = told ∙ ap (λ (j : StoredWaiter). new_release Waiting j.standing) is;
    })

-- one moment, by what is stored
pub moment_after : (s new : WaitsShown) (m : Moment) (given : List (ℕ × Verdict)) → given ≡ filter_map (release_seen m) s.waiters
    → MakesStep (m ∷ []) stay s.next s new → (w : Watch) → WaitsStandFor s w
    → (given ≡ releases w m) × WaitsStandFor new (waits_after_moment w m)
moment_after s new m given e t w st =
    (e ∙ (ap (filter_map (release_seen m)) st.waiters ∙ released_all w.history m w.waiters st.placed), stands_step s new (m ∷ []) t w st)

-- nothing is asked
pub plans_nothing : (s : WaitsShown) (ms : List Moment) → PlansChange s ms WaitRequest.no_wait_request answer.Nothing stay s.next
plans_nothing s ms = record {
  answer = λ w st. refl;
  stands = λ w st new t. stands_step s new ms t w st;
  serial = omega arith;
}

same_refusal : (s : WaitsShown) (ms : List Moment) (sids : List ℕ) (o : Option AddFault) (w : Watch) → WaitsStandFor s w
    → o ≡ add_refusal (length s.waiters) sids → add_refusal (length (waits_after_moments w ms).waiters) sids ≡ o
same_refusal s ms sids o w st e =
    ap (λ ps. add_refusal (length ps) sids) (same_waiters ms w) ∙ (ap (λ n. add_refusal n sids) (sym (count_is s w st)) ∙ sym e)

pub plans_refusal : (s : WaitsShown) (ms : List Moment) (asked : WaitTerms) (fault : AddFault)
    → Some fault ≡ add_refusal (length s.waiters) asked.sids
    → PlansChange s ms (WaitRequest.add_one asked) (answer.Refused fault) stay s.next
plans_refusal s ms asked fault e = record {
  answer = λ w st. ap (λ o. answer_to_add o (waits_after_moments w ms) asked) (sym (same_refusal s ms asked.sids (Some fault) w st e));
  stands = λ w st new t. subst (λ o. WaitsStandFor new (with_waiter_unless o (waits_after_moments w ms) asked))
      (sym (same_refusal s ms asked.sids (Some fault) w st e)) (stands_step s new ms t w st);
  serial = omega arith;
}

-- a waiter is planned, since nothing refuses it
pub plans_waiter : (s : WaitsShown) (ms : List Moment) (asked : WaitTerms) (k : StoredWaiter) (given : Option Verdict)
    → None ≡ add_refusal (length s.waiters) asked.sids
    → k ≡ new_stored_waiter s.next (s.count + length ms) asked (λ sid. state_over sid ms (state_in s.states sid))
    → given ≡ new_release Waiting k.standing
    → PlansChange s ms (WaitRequest.add_one asked) (answer.Added s.next given) (join k) (s.next + 1)
plans_waiter s ms asked k given e is told =
    let one : (w : Watch) → WaitsStandFor s w → k ≡ stored_waiter (waits_after_moments w ms).history (new_waiter (waits_after_moments w ms) asked) =
    λ w st. let by = stands_moments ms (state_in s.states) s.count s.waiters w (stands_by s w st) in
    is ∙ begun_is (λ sid. state_over sid ms (state_in s.states sid)) s.next (s.count + length ms) (waits_after_moments w ms) asked
    (same_next ms w ∙ st.next) by.count_is by.states_are in
    record {
      answer = λ w st.
          ap (λ i. answer.Added i given) (sym (same_next ms w ∙ st.next))
          ∙ (ap (λ v. answer.Added (waits_after_moments w ms).next v)
          (told ∙ ap (λ (j : StoredWaiter). new_release Waiting j.standing) (one w st))
          ∙ ap (λ o. answer_to_add o (waits_after_moments w ms) asked) (sym (same_refusal s ms asked.sids None w st e)));
      stands = λ w st new t. subst (λ o. WaitsStandFor new (with_waiter_unless o (waits_after_moments w ms) asked))
          (sym (same_refusal s ms asked.sids None w st e))
          (adds_after (between s new ms) new k asked refl (λ sid. refl) t.waiters t.next_is (waits_after_moments w ms)
          (between_stands s new ms t.count t.states w st) (one w st));
      serial = omega arith;
    }

-- a waiter is planned to leave
pub plans_cancel : (s : WaitsShown) (ms : List Moment) (id : ℕ) (stood : Bool) → stood ≡ is_some (standing_kept id s.waiters)
    → PlansChange s ms (WaitRequest.cancel_one id) (answer.Cancelled stood) (leave id) s.next
plans_cancel s ms id stood e = record {
  answer = λ w st. ap (λ b. answer.Cancelled b) (e ∙ (ap is_some (result_is s id w st)
      ∙ (stands_still id w.history (waits_after_moments w ms).history (find (is_waiter_of id) w.waiters)
      ∙ ap (λ ps. is_some (option_map (waiter_state (waits_after_moments w ms).history) (find (is_waiter_of id) ps))) (sym (same_waiters ms w)))));
  stands = λ w st new t. cancels_after (between s new ms) new id
      (record { count = refl; states = refl; waiters = t.waiters; next = t.next_is })
      (waits_after_moments w ms) (between_stands s new ms t.count t.states w st);
  serial = omega arith;
}
