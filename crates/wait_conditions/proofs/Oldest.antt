-- The oldest waiter that waits still.
use Rattle.std.proofs.Common.{◌≡◌, ◌≤◌, ◌+◌, ℕ, List, [], ◌∷◌, Bool, true, false, Option, Some, None, All, arith, length, map, refl, sym, ap, ◌∙◌, subst, if◌then◌else◌}
use Rattle.std.specs.Prelude.{nat_le, fold, IfSome}
use Rattle.std.proofs.lemmas.Bool.Decides.{nat_tests}
use Rattle.std.proofs.lemmas.List.Elements.{All-cons, All-head, All-tail, All-push, All-filter}
use Rattle.s6_events.specs.declared.moment.Moment.{Moment}
use Rattle.wait_conditions.specs.declared.verdict.WaitState.{WaitState}
use Rattle.wait_conditions.specs.declared.verdict.WaitState.TheVariants.{Waiting, Released}
use Rattle.wait_conditions.specs.Kept.{StoredWaiter, is_waiting, still_waits, is_other, lower, older, oldest_place, NoneBegan, concerns, late_at, watched_then, judged, with_moment, with_moment_while, with_moments}
use Rattle.wait_conditions.specs.Stands.{WaitsShown, place_or_end}
use Rattle.wait_conditions.specs.WaitsPlans.{PlannedWaits, MakesPlan, ListChange, with_list_change, JoinsAt}
use Rattle.wait_conditions.specs.WaitsPlans.ListChange.{stay, join, leave}

-- of two places one is taken
takes_one : (P : ℕ → Type 0) (b : Bool) (p q : ℕ) → P p → P q → P (if b then p else q)
takes_one P true p q hp hq = hp
takes_one P false p q hp hq = hq

lower_takes : (P : ℕ → Type 0) (found : Option ℕ) (place : ℕ) → IfSome found P → P place → P (lower found place)
lower_takes P None place hf hp = hp
lower_takes P (Some other) place hf hp = takes_one P (nat_le other place) other place hf hp

older_takes : (P : ℕ → Type 0) (found : Option ℕ) (k : StoredWaiter) (b : Bool) → still_waits k ≡ b → IfSome found P
    → (still_waits k ≡ true → P k.place) → IfSome (if b then Some (lower found k.place) else found) P
older_takes P found k true e hf hk = lower_takes P found k.place hf (hk e)
older_takes P found k false e hf hk = hf

abbrev Among : (ℕ → Type 0) → List StoredWaiter → Type 0
Among P ks = All (λ k. still_waits k ≡ true → P k.place) ks

-- what holds of each place holds of the one that is found
found_holds : (P : ℕ → Type 0) (ks : List StoredWaiter) (found : Option ℕ) → IfSome found P → Among P ks → IfSome (fold older found ks) P
found_holds P [] found hf h = hf
found_holds P (k ∷ ks) found hf h =
    found_holds P ks (older found k)
    (older_takes P found k (still_waits k) refl hf (All-head (λ j. still_waits j ≡ true → P j.place) k ks h))
    (All-tail (λ j. still_waits j ≡ true → P j.place) k ks h)

below_both : (b : Bool) (n p q : ℕ) → nat_le p q ≡ b → n ≤ (if b then p else q) → (n ≤ p) × (n ≤ q)
below_both true n p q e h = (h, grind (arith, nat_tests))
below_both false n p q e h = (grind (arith, nat_tests), h)

below_lower : (n : ℕ) (found : Option ℕ) (place : ℕ) → n ≤ lower found place → IfSome found (λ q. n ≤ q) × (n ≤ place)
below_lower n None place h = (tt, h)
below_lower n (Some other) place h = below_both (nat_le other place) n other place refl h

below_older : (n : ℕ) (found : Option ℕ) (k : StoredWaiter) (b : Bool) → still_waits k ≡ b
    → IfSome (if b then Some (lower found k.place) else found) (λ q. n ≤ q) → IfSome found (λ q. n ≤ q) × (still_waits k ≡ true → n ≤ k.place)
below_older n found k true e h = let both = below_lower n found k.place h in (both.0, λ w. both.1)
below_older n found k false e h = (h, λ w. let bad : true ≡ false = sym w ∙ e in cc)

-- a place that is not above the one that is found is not above any
none_before : (n : ℕ) (ks : List StoredWaiter) (found : Option ℕ) → IfSome (fold older found ks) (λ p. n ≤ p)
    → IfSome found (λ q. n ≤ q) × NoneBegan n ks
none_before n [] found h = (h, λ k d lt. absurd (omega (arith, lt)))
none_before n (k ∷ ks) found h =
    let rest = none_before n ks (older found k) h in
    let here = below_older n found k (still_waits k) refl rest.0 in
    (here.0, All-cons (λ j. still_waits j ≡ true → n ≤ j.place) k ks here.1 rest.1)

at_end : (P : ℕ → Type 0) (o : Option ℕ) (count : ℕ) → IfSome o P → P count → P (place_or_end o count)
at_end P None count h e = e
at_end P (Some place) count h e = h

pub least_needed : (ks : List StoredWaiter) (count place : ℕ) → NoneBegan place ks → place ≤ count
    → place ≤ place_or_end (oldest_place ks) count
least_needed ks count place h e = at_end (λ p. place ≤ p) (oldest_place ks) count (found_holds (λ p. place ≤ p) ks None tt h) e

needed_by : (ks : List StoredWaiter) (count : ℕ) (o : Option ℕ) → oldest_place ks ≡ o → NoneBegan (place_or_end o count) ks
needed_by ks count None e = (none_before count ks None (subst (λ o. IfSome o (λ p. count ≤ p)) (sym e) tt)).1
needed_by ks count (Some place) e =
    (none_before place ks None (subst (λ o. IfSome o (λ p. place ≤ p)) (sym e) (let le : place ≤ place = omega arith in le))).1

pub all_needed : (ks : List StoredWaiter) (count : ℕ) → NoneBegan (place_or_end (oldest_place ks) count) ks
all_needed ks count = needed_by ks count (oldest_place ks) refl

pub within_end : (ks : List StoredWaiter) (count end : ℕ) → All (λ k. k.place ≤ end) ks → count ≤ end
    → place_or_end (oldest_place ks) count ≤ end
within_end ks count end h e =
    at_end (λ p. p ≤ end) (oldest_place ks) count (found_holds (λ p. p ≤ end) ks None tt (λ k d lt w. h k d lt)) e

-- moments leave a place, and who waits after them waited before
place_while : (b late : Bool) (m : Moment) (k : StoredWaiter)
    → (if b then judged late (record k { watched = watched_then m k }) else k).place ≡ k.place
place_while true late m k = refl
place_while false late m k = refl

place_by : (s : WaitState) (m : Moment) (k : StoredWaiter) → (with_moment_while s m k).place ≡ k.place
place_by Waiting m k = place_while (concerns m k) (late_at k.deadline m) m k
place_by (Released v) m k = refl

waited_by : (s : WaitState) (m : Moment) (k : StoredWaiter) → k.standing ≡ s → still_waits (with_moment_while s m k) ≡ true
    → still_waits k ≡ true
waited_by Waiting m k e h = ap is_waiting e
waited_by (Released v) m k e h = h

pub place_stays : (ms : List Moment) (k : StoredWaiter) → (with_moments ms k).place ≡ k.place
place_stays [] k = refl
place_stays (m ∷ ms) k = place_stays ms (with_moment m k) ∙ place_by k.standing m k

pub waited_before : (ms : List Moment) (k : StoredWaiter) → still_waits (with_moments ms k) ≡ true → still_waits k ≡ true
waited_before [] k h = h
waited_before (m ∷ ms) k h = waited_by k.standing m k refl (waited_before ms (with_moment m k) h)

none_began : (n : ℕ) (ms : List Moment) (ks : List StoredWaiter) → NoneBegan n ks → NoneBegan n (map (with_moments ms) ks)
none_began n ms [] h = h
none_began n ms (k ∷ ks) h =
    All-cons (λ j. still_waits j ≡ true → n ≤ j.place) (with_moments ms k) (map (with_moments ms) ks)
    (λ w. let here : n ≤ k.place = All-head (λ j. still_waits j ≡ true → n ≤ j.place) k ks h (waited_before ms k w) in
    omega (arith, here, place_stays ms k))
    (none_began n ms ks (All-tail (λ j. still_waits j ≡ true → n ≤ j.place) k ks h))

changed_began : (n count : ℕ) (change : ListChange) (ks : List StoredWaiter) → JoinsAt count change → n ≤ count → NoneBegan n ks
    → NoneBegan n (with_list_change change ks)
changed_began n count stay ks j le h = h
changed_began n count (join k) ks j le h =
    All-push (λ i. still_waits i ≡ true → n ≤ i.place) ks k h (λ w. let at : k.place ≡ count = j in omega (arith, at, le))
changed_began n count (leave id) ks j le h = All-filter (is_other id) (λ i. still_waits i ≡ true → n ≤ i.place) ks h

pub began_after : (p : PlannedWaits) (old new : WaitsShown) → MakesPlan p old new → JoinsAt (old.count + length p.moments) p.change
    → (n : ℕ) → NoneBegan n old.waiters → n ≤ old.count → NoneBegan n new.waiters
began_after p old new t j n h le =
    subst (NoneBegan n) (sym t.waiters)
    (changed_began n (old.count + length p.moments) p.change (map (with_moments p.moments) old.waiters) j (omega (arith, le))
    (none_began n p.moments old.waiters h))
