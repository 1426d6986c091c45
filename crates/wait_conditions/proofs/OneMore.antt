-- What is to be stored of a waiter after one more moment is what the moment makes of what was stored.
use Rattle.std.proofs.Common.{◌≡◌, ◌≤◌, ℕ, List, [], ◌∷◌, ◌++◌, Bool, true, false, ◌||◌, Option, Some, None, is_some, length, take, drop, map, refl, sym, ap, ◌∙◌, if◌then◌else◌, arith}
use Rattle.std.proofs.lemmas.List.{length-map, take-append-le, drop-append-le, take_all}
use Rattle.std.proofs.lemmas.List.Folds.{list_any-append}
use Rattle.std.specs.List.{list_any}
use Rattle.s6_events.specs.declared.moment.Moment.{Moment}
use Rattle.s6_events.specs.Newest.{mark_of}
use Rattle.wait_conditions.specs.declared.verdict.Verdict.TheVariants.{Held, Failed, Gone, TimedOut}
use Rattle.wait_conditions.specs.declared.verdict.WaitState.{WaitState}
use Rattle.wait_conditions.specs.declared.verdict.WaitState.TheVariants.{Waiting, Released}
use Rattle.wait_conditions.specs.declared.watched_service.WatchedService.{WatchedService}
use Rattle.wait_conditions.specs.Counts.{counts_of, verdict_by}
use Rattle.wait_conditions.specs.Fails.{failure}
use Rattle.wait_conditions.specs.Holds.{holds}
use Rattle.wait_conditions.specs.Kept.{StoredWaiter, watched_while, late_at, concerns, judged, with_moment}
use Rattle.wait_conditions.specs.Release.{release_state, first_release, first_release_of}
use Rattle.wait_conditions.specs.Stands.{stored_waiter}
use Rattle.wait_conditions.specs.Verdict.{WaitTerms, reaches, is_enough, is_hopeless, is_failure_for_good, is_late, verdict}
use Rattle.wait_conditions.specs.Watch.{WrittenWaiter, waiter_state}
use Rattle.wait_conditions.specs.Watched.{watched_over, watched_after}
use Rattle.wait_conditions.proofs.Counted.{verdict-counts}
use Rattle.wait_conditions.proofs.Least.{waits_at_each}
use Rattle.wait_conditions.proofs.Standings.{standing-push}
use Rattle.wait_conditions.proofs.Watched.{all_watched-push, unconcerned_watch, unconcerned_late}

in_time : (enough hopeless permanent late : Bool)
    → (if enough then Released Held else if hopeless then (if permanent then Released Failed else Released Gone)
    else if late then Released TimedOut else Waiting) ≡ Waiting → late ≡ false
in_time true hopeless permanent late h = cc
in_time false true true late h = cc
in_time false true false late h = cc
in_time false false permanent true h = cc
in_time false false permanent false h = refl

or_false : (b : Bool) → (b || false) ≡ b
or_false true = refl
or_false false = refl

-- a deadline that was not reached is reached by the moment alone
is_late-push : (deadline : Option ℕ) (since : List Moment) (m : Moment) → is_late deadline since ≡ false
    → is_late deadline (since ++ m ∷ []) ≡ late_at deadline m
is_late-push None since m h = refl
is_late-push (Some deadline) since m h =
    list_any-append (reaches deadline) since (m ∷ [])
    ∙ (ap (λ b. b || (reaches deadline m || false)) h ∙ or_false (reaches deadline m))

-- what is stored of a waiter that stands so, and knows this of its services
abbrev kept_as : WrittenWaiter → WaitState → List WatchedService → StoredWaiter
kept_as p s ws = record {
  id = p.id;
  condition = p.asked.condition;
  mode = p.asked.mode;
  deadline = p.asked.deadline;
  place = p.place;
  watched = watched_while s ws;
  standing = s;
}

-- one that waits has a verdict that waits, and is in time
verdict_waits : (a : WaitTerms) (past since : List Moment) → release_state a past since ≡ Waiting → verdict a past since ≡ Waiting
verdict_waits a past since h =
    ap (verdict a past) (sym (take_all (length since) since (omega arith))) ∙ waits_at_each a past since h (length since) (omega arith)

waits_in_time : (a : WaitTerms) (past since : List Moment) → release_state a past since ≡ Waiting → is_late a.deadline since ≡ false
waits_in_time a past since h = in_time (is_enough a.mode (λ sid. holds a.condition sid past since) a.sids)
    (is_hopeless a.mode (λ sid. is_some (failure a.condition sid past since)) a.sids)
    (list_any (λ sid. is_failure_for_good (failure a.condition sid past since)) a.sids) (is_late a.deadline since)
    (verdict_waits a past since h)

-- the verdict over a stretch, by what is known of the services
verdict_known : (a : WaitTerms) (past since : List Moment)
    → verdict a past since ≡ verdict_by a.mode (length (map (watched_over a.condition past since) a.sids))
    (counts_of (map (watched_over a.condition past since) a.sids)) (is_late a.deadline since)
verdict_known a past since =
    let ws = map (watched_over a.condition past since) a.sids in
    verdict-counts a past since
    ∙ ap (λ n. verdict_by a.mode n (counts_of ws) (is_late a.deadline since)) (sym (length-map a.sids (watched_over a.condition past since)))

-- one that waits and looks again sees the same
looks_again : (p : WrittenWaiter) (past since : List Moment) → release_state p.asked past since ≡ Waiting
    → judged false (kept_as p Waiting (map (watched_over p.asked.condition past since) p.asked.sids))
    ≡ kept_as p Waiting (map (watched_over p.asked.condition past since) p.asked.sids)
looks_again p past since h =
    let ws = map (watched_over p.asked.condition past since) p.asked.sids in
    let late : is_late p.asked.deadline since ≡ false = waits_in_time p.asked past since h in
    ap (λ s. kept_as p s ws)
    (ap (verdict_by p.asked.mode (length ws) (counts_of ws)) (sym late)
    ∙ (sym (verdict_known p.asked past since) ∙ verdict_waits p.asked past since h))

-- one that waits takes the verdict of what it knows after the moment
takes_verdict : (p : WrittenWaiter) (past since : List Moment) (m : Moment) → release_state p.asked past since ≡ Waiting
    → kept_as p (release_state p.asked past (since ++ m ∷ [])) (map (watched_over p.asked.condition past (since ++ m ∷ [])) p.asked.sids)
    ≡ judged (late_at p.asked.deadline m) (kept_as p Waiting
    (map (λ w. watched_after p.asked.condition (mark_of w.sid m) w) (map (watched_over p.asked.condition past since) p.asked.sids)))
takes_verdict p past since m e =
    let a = p.asked in
    let now = map (watched_over a.condition past (since ++ m ∷ [])) a.sids in
    let late : is_late a.deadline (since ++ m ∷ []) ≡ late_at a.deadline m =
    is_late-push a.deadline since m (waits_in_time a past since e) in
    let given : release_state a past (since ++ m ∷ []) ≡ verdict_by a.mode (length now) (counts_of now) (late_at a.deadline m) =
    standing-push a past since m
    ∙ (ap (λ s. first_release_of s (verdict a past (since ++ m ∷ []))) e
    ∙ (verdict_known a past (since ++ m ∷ []) ∙ ap (verdict_by a.mode (length now) (counts_of now)) late)) in
    ap (λ s. kept_as p s now) given
    ∙ ap (λ ws. judged (late_at a.deadline m) (kept_as p Waiting ws)) (all_watched-push a.condition past since m a.sids)

-- where the moment doesn't concern it, that is what it was
waits_on : (p : WrittenWaiter) (past since : List Moment) (m : Moment) (b : Bool) → release_state p.asked past since ≡ Waiting
    → concerns m (kept_as p Waiting (map (watched_over p.asked.condition past since) p.asked.sids)) ≡ b
    → kept_as p (release_state p.asked past (since ++ m ∷ [])) (map (watched_over p.asked.condition past (since ++ m ∷ [])) p.asked.sids)
    ≡ (if b then judged (late_at p.asked.deadline m) (kept_as p Waiting
    (map (λ w. watched_after p.asked.condition (mark_of w.sid m) w) (map (watched_over p.asked.condition past since) p.asked.sids)))
    else kept_as p Waiting (map (watched_over p.asked.condition past since) p.asked.sids))
waits_on p past since m true e h = takes_verdict p past since m e
waits_on p past since m false e h =
    let k = kept_as p Waiting (map (watched_over p.asked.condition past since) p.asked.sids) in
    takes_verdict p past since m e
    ∙ (ap (λ ws. judged (late_at p.asked.deadline m) (kept_as p Waiting ws)) (unconcerned_watch m k h)
    ∙ (ap (λ b. judged b k) (unconcerned_late m k h) ∙ looks_again p past since e))

stays : (p : WrittenWaiter) (past since : List Moment) (m : Moment) (s : WaitState) → release_state p.asked past since ≡ s
    → kept_as p (release_state p.asked past (since ++ m ∷ [])) (map (watched_over p.asked.condition past (since ++ m ∷ [])) p.asked.sids)
    ≡ with_moment m (kept_as p s (map (watched_over p.asked.condition past since) p.asked.sids))
stays p past since m Waiting e = waits_on p past since m _ e refl
stays p past since m (Released v) e =
    ap (λ s. kept_as p s (map (watched_over p.asked.condition past (since ++ m ∷ [])) p.asked.sids))
    (standing-push p.asked past since m ∙ ap (λ s. first_release_of s (verdict p.asked past (since ++ m ∷ []))) e)

-- the whole of one more moment, for one waiter
pub stored_waiter-push : (history : List Moment) (m : Moment) (p : WrittenWaiter) → p.place ≤ length history
    → stored_waiter (history ++ m ∷ []) p ≡ with_moment m (stored_waiter history p)
stored_waiter-push history m p placed =
    rw (take-append-le p.place history (m ∷ []) placed, drop-append-le p.place history (m ∷ []) placed)
    (stays p (take p.place history) (drop p.place history) m (waiter_state history p) refl)

-- over no moment, a waiter stands as its verdict is, and is not late
first_one : (s : WaitState) → first_release (s ∷ []) ≡ s
first_one Waiting = refl
first_one (Released v) = refl

never_late : (deadline : Option ℕ) → is_late deadline [] ≡ false
never_late None = refl
never_late (Some deadline) = refl

-- a waiter that begins now
pub begins_waiting : (p : WrittenWaiter) (past : List Moment)
    → kept_as p (release_state p.asked past []) (map (watched_over p.asked.condition past []) p.asked.sids)
    ≡ judged false (kept_as p Waiting (map (watched_over p.asked.condition past []) p.asked.sids))
begins_waiting p past =
    let ws = map (watched_over p.asked.condition past []) p.asked.sids in
    ap (λ s. kept_as p s ws) (first_one (verdict p.asked past [])
    ∙ (verdict_known p.asked past [] ∙ ap (verdict_by p.asked.mode (length ws) (counts_of ws)) (never_late p.asked.deadline)))
