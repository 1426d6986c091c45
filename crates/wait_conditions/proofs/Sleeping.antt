-- A clock reading before the next deadline releases nobody.
use Rattle.std.proofs.Common.{◌≡◌, refl, sym, ap, ◌∙◌, ℕ, ◌+◌, ◌<◌, ◌≤◌, List, [], ◌∷◌, ◌++◌, All, Bool, true, false, ◌&&◌, ◌||◌, cond, length, take, drop, map, min, arith}
use Rattle.std.proofs.lemmas.Bool.Decides.{nat_tests}
use Rattle.std.proofs.lemmas.List.{append_assoc, append-nil, length-append, take_all, take-append-le, drop-append-le, drop_all}
use Rattle.std.proofs.lemmas.List.Folds.{list_any-append}
use Rattle.std.specs.Prelude.{Option, Some, None, is_some, option_map, fold, nat_le}
use Rattle.std.specs.List.{list_all, list_any, filter_map, cons_option}
use Rattle.s6_events.specs.declared.condition.Condition.{Condition}
use Rattle.s6_events.specs.declared.condition.Mode.{Mode}
use Rattle.s6_events.specs.declared.condition.Mode.TheVariants as mode
use Rattle.s6_events.specs.declared.mark.Mark.{Mark}
use Rattle.s6_events.specs.declared.moment.Moment.{Moment}
use Rattle.s6_events.specs.declared.moment.Moment.TheVariants.{Clock}
use Rattle.s6_events.specs.CurrentLetter.{start_or, tells_state, mark_or_done}
use Rattle.s6_events.specs.Newest.{newest}
use Rattle.s6_events.proofs.Newest.{newest-push}
use Rattle.wait_conditions.specs.declared.verdict.Verdict.TheVariants.{Held, Failed, Gone, TimedOut}
use Rattle.wait_conditions.specs.declared.verdict.WaitState.{WaitState}
use Rattle.wait_conditions.specs.declared.verdict.WaitState.TheVariants.{Waiting, Released}
use Rattle.wait_conditions.specs.Fails.{failure, failure_at, has_failed, is_failed, tells_failure, has_ended, is_ended, tells_supervisor}
use Rattle.wait_conditions.specs.Holds.{holds, holds_at, is_spawned, has_spawned}
use Rattle.wait_conditions.specs.Kept.{is_waiting}
use Rattle.wait_conditions.specs.NextDeadline.{earlier_of, awaited_until, next_deadline, is_before}
use Rattle.wait_conditions.specs.Release.{release_state, first_release, first_release_of}
use Rattle.wait_conditions.specs.Verdict.{WaitTerms, verdict, is_late, reaches, is_enough, is_hopeless, is_failure_for_good}
use Rattle.wait_conditions.specs.Watch.{Watch, WrittenWaiter, waiter_state, new_release, release_of, releases}
use Rattle.wait_conditions.proofs.Least.{waits_at_each}
use Rattle.wait_conditions.proofs.Standings.{standing-push}

-- the same letters are read in two pasts, and the same moments since
record SameMarks (past since past' since' : List Moment) : Type 0 where
  all : (wanted : Mark → Bool) (sid : ℕ) → newest wanted sid (past' ++ since') ≡ newest wanted sid (past ++ since)
  later : (wanted : Mark → Bool) (sid : ℕ) → newest wanted sid since' ≡ newest wanted sid since

-- a clock reading tells no letter
reading_tells_none : (wanted : Mark → Bool) (sid at : ℕ) (h : List Moment) → newest wanted sid (h ++ Clock at ∷ []) ≡ newest wanted sid h
reading_tells_none wanted sid at h = newest-push wanted sid h (Clock at)

one_reading_more : (past since : List Moment) (at : ℕ) → SameMarks past since past (since ++ Clock at ∷ [])
one_reading_more past since at = record {
  all = λ wanted sid. ap (newest wanted sid) (sym (append_assoc past since (Clock at ∷ []))) ∙ reading_tells_none wanted sid at (past ++ since);
  later = λ wanted sid. reading_tells_none wanted sid at since;
}

one_reading_before : (past : List Moment) (at : ℕ) → SameMarks past [] (past ++ Clock at ∷ []) []
one_reading_before past at = record {
  all = λ wanted sid.
      ap (newest wanted sid) (append-nil (past ++ Clock at ∷ []))
      ∙ (reading_tells_none wanted sid at past ∙ ap (newest wanted sid) (sym (append-nil past)));
  later = λ wanted sid. refl;
}

-- so a condition holds as before, and fails as before
same_holds : (c : Condition) (sid : ℕ) (past since past' since' : List Moment) → SameMarks past since past' since'
    → holds c sid past' since' ≡ holds c sid past since
same_holds c sid past since past' since' same =
    ap (λ found. holds_at c (mark_or_done found) (has_spawned sid since')) (same.all (start_or tells_state) sid)
    ∙ ap (λ found. holds_at c (mark_or_done (newest (start_or tells_state) sid (past ++ since))) (is_some found)) (same.later is_spawned sid)

same_failure : (c : Condition) (sid : ℕ) (past since past' since' : List Moment) → SameMarks past since past' since'
    → failure c sid past' since' ≡ failure c sid past since
same_failure c sid past since past' since' same =
    ap (λ b. cond b None (failure_at c (has_failed sid since') (has_ended sid (past' ++ since')))) (same_holds c sid past since past' since' same)
    ∙ (ap (λ found. cond (holds c sid past since) None (failure_at c (is_failed found) (has_ended sid (past' ++ since'))))
    (same.later tells_failure sid)
    ∙ ap (λ found. cond (holds c sid past since) None (failure_at c (has_failed sid since) (is_ended found))) (same.all tells_supervisor sid))

-- two tests that are the same for each
same_all : (f g : ℕ → Bool) (xs : List ℕ) → ((x : ℕ) → f x ≡ g x) → list_all f xs ≡ list_all g xs
same_all f g [] e = refl
same_all f g (x ∷ xs) e = ap (λ b. b && list_all f xs) (e x) ∙ ap (λ b. g x && b) (same_all f g xs e)

same_any : (f g : ℕ → Bool) (xs : List ℕ) → ((x : ℕ) → f x ≡ g x) → list_any f xs ≡ list_any g xs
same_any f g [] e = refl
same_any f g (x ∷ xs) e = ap (λ b. b || list_any f xs) (e x) ∙ ap (λ b. g x || b) (same_any f g xs e)

same_enough : (k : Mode) (f g : ℕ → Bool) (xs : List ℕ) → ((x : ℕ) → f x ≡ g x) → is_enough k f xs ≡ is_enough k g xs
same_enough mode.All f g xs e = same_all f g xs e
same_enough mode.One f g xs e = same_any f g xs e

same_hopeless : (k : Mode) (f g : ℕ → Bool) (xs : List ℕ) → ((x : ℕ) → f x ≡ g x) → is_hopeless k f xs ≡ is_hopeless k g xs
same_hopeless mode.All f g xs e = same_any f g xs e
same_hopeless mode.One f g xs e = same_all f g xs e

-- what a verdict makes of its four tests
abbrev decided : Bool → Bool → Bool → Bool → WaitState
decided enough hopeless good late =
    cond enough (Released Held) (cond hopeless (cond good (Released Failed) (Released Gone)) (cond late (Released TimedOut) Waiting))

same_decided : (e e' h h' g g' l l' : Bool) → e' ≡ e → h' ≡ h → g' ≡ g → l' ≡ l → decided e' h' g' l' ≡ decided e h g l
same_decided e e' h h' g g' l l' a b c d =
    ap (λ x. decided x h' g' l') a ∙ (ap (λ x. decided e x g' l') b ∙ (ap (λ x. decided e h x l') c ∙ ap (decided e h g) d))

same_verdict : (a : WaitTerms) (past since past' since' : List Moment) → SameMarks past since past' since'
    → is_late a.deadline since' ≡ is_late a.deadline since → verdict a past' since' ≡ verdict a past since
same_verdict a past since past' since' same late =
    same_decided _ _ _ _ _ _ _ _
    (same_enough a.mode (λ sid. holds a.condition sid past' since') (λ sid. holds a.condition sid past since) a.sids
    (λ sid. same_holds a.condition sid past since past' since' same))
    (same_hopeless a.mode (λ sid. is_some (failure a.condition sid past' since')) (λ sid. is_some (failure a.condition sid past since)) a.sids
    (λ sid. ap is_some (same_failure a.condition sid past since past' since' same)))
    (same_any (λ sid. is_failure_for_good (failure a.condition sid past' since'))
    (λ sid. is_failure_for_good (failure a.condition sid past since)) a.sids
    (λ sid. ap is_failure_for_good (same_failure a.condition sid past since past' since' same)))
    late

-- before a deadline no clock reading reaches it
not_reached : (at : ℕ) (deadline : Option ℕ) (since : List Moment) → is_before at deadline ≡ true
    → is_late deadline (since ++ Clock at ∷ []) ≡ is_late deadline since
not_reached at None since h = refl
not_reached at (Some deadline) since h =
    list_any-append (reaches deadline) since (Clock at ∷ [])
    ∙ by (list_any (reaches deadline) since) (nat_le deadline at) (grind (arith, nat_tests))
  where
    by : (b r : Bool) → r ≡ false → (b || (r || false)) ≡ b
    by true r e = refl
    by false r e = ap (λ (q : Bool). q || false) e

-- one that waits goes on waiting
still_waiting : (a : WaitTerms) (past since : List Moment) (at : ℕ) → is_before at a.deadline ≡ true → release_state a past since ≡ Waiting
    → release_state a past (since ++ Clock at ∷ []) ≡ Waiting
still_waiting a past since at early waits =
    let at_end : verdict a past since ≡ Waiting = ap (verdict a past) (sym (take_all (length since) since (omega arith)))
    ∙ waits_at_each a past since waits (length since) (omega arith) in
    let same = same_verdict a past since past (since ++ Clock at ∷ []) (one_reading_more past since at) (not_reached at a.deadline since early) in
    standing-push a past since (Clock at)
    ∙ (ap (λ s. first_release_of s (verdict a past (since ++ Clock at ∷ []))) waits ∙ (same ∙ at_end))

not_begun : (a : WaitTerms) (past : List Moment) (at : ℕ) → release_state a past [] ≡ Waiting → release_state a (past ++ Clock at ∷ []) [] ≡ Waiting
not_begun a past at waits =
    ap (λ s. first_release (s ∷ [])) (same_verdict a past [] (past ++ Clock at ∷ []) [] (one_reading_before past at) refl) ∙ waits

reading_leaves : (history : List Moment) (p : WrittenWaiter) (at : ℕ) → is_before at p.asked.deadline ≡ true → waiter_state history p ≡ Waiting
    → waiter_state (history ++ Clock at ∷ []) p ≡ Waiting
reading_leaves history p at early waits = by (nat_le p.place (length history)) refl
  where
    more : List Moment
    more = history ++ Clock at ∷ []

    by : (b : Bool) → nat_le p.place (length history) ≡ b → waiter_state more p ≡ Waiting
    by true within =
        let le : p.place ≤ length history = grind (arith, nat_tests) in
        ap (λ ms. release_state p.asked ms (drop p.place more)) (take-append-le p.place history (Clock at ∷ []) le)
        ∙ (ap (release_state p.asked (take p.place history)) (drop-append-le p.place history (Clock at ∷ []) le)
        ∙ still_waiting p.asked (take p.place history) (drop p.place history) at early waits)
    by false beyond =
        let gt : length history < p.place = grind (arith, nat_tests) in
        let past : length history ≤ p.place = omega arith in
        let one_more : length more ≡ length history + 1 = length-append history (Clock at ∷ []) in
        let far : length more ≤ p.place = omega arith in
        let begun : release_state p.asked history [] ≡ Waiting = ap (λ ms. release_state p.asked ms []) (sym (take_all p.place history past))
        ∙ (ap (release_state p.asked (take p.place history)) (sym (drop_all p.place history past)) ∙ waits) in
        ap (λ ms. release_state p.asked ms (drop p.place more)) (take_all p.place more far)
        ∙ (ap (release_state p.asked more) (drop_all p.place more far) ∙ not_begun p.asked history at begun)

-- a waiter that isn't late is not released
none_new : (s s' : WaitState) → (s ≡ Waiting → s' ≡ Waiting) → new_release s s' ≡ None
none_new Waiting s' h = ap (new_release Waiting) (h refl)
none_new (Released v) s' h = refl

none_released : (history : List Moment) (at : ℕ) (p : WrittenWaiter) → is_before at (awaited_until history p) ≡ true
    → release_of history (Clock at) p ≡ None
none_released history at p early =
    ap (λ found. option_map (λ v. (p.id, v)) found)
    (none_new (waiter_state history p) (waiter_state (history ++ Clock at ∷ []) p)
    (λ waits. reading_leaves history p at (ap (λ s. is_before at (cond (is_waiting s) p.asked.deadline None)) (sym waits) ∙ early) waits))

-- a moment that is before the earlier of two is before both
pub before_both : (at : ℕ) (one other : Option ℕ) → is_before at (earlier_of one other) ≡ true
    → (is_before at one ≡ true) × (is_before at other ≡ true)
before_both at None other h = (refl, h)
before_both at (Some one) None h = (h, refl)
before_both at (Some one) (Some other) h =
    let lt : at < min one other = grind (arith, nat_tests) in
    (let early : at < one = omega arith in grind (arith, nat_tests), let early : at < other = omega arith in grind (arith, nat_tests))

pub before_first : (at : ℕ) (first : Option ℕ) (moments : List (Option ℕ)) → is_before at (fold earlier_of first moments) ≡ true
    → is_before at first ≡ true
before_first at first [] h = h
before_first at first (x ∷ xs) h = (before_both at first x (before_first at (earlier_of first x) xs h)).0

none_of_all : (history : List Moment) (at : ℕ) (first : Option ℕ) (ps : List WrittenWaiter)
    → is_before at (fold earlier_of first (map (awaited_until history) ps)) ≡ true → filter_map (release_of history (Clock at)) ps ≡ []
none_of_all history at first [] h = refl
none_of_all history at first (p ∷ ps) h =
    ap (λ found. cons_option found (filter_map (release_of history (Clock at)) ps))
    (none_released history at p (before_both at first (awaited_until history p)
    (before_first at (earlier_of first (awaited_until history p)) (map (awaited_until history) ps) h)).1)
    ∙ none_of_all history at (earlier_of first (awaited_until history p)) ps h

-- the law of sleep
pub releases_none : (w : Watch) (at : ℕ) → is_before at (next_deadline w) ≡ true → releases w (Clock at) ≡ []
releases_none w at early = none_of_all w.history at None w.waiters early
