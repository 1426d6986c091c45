-- The list of waiters stays in order, with its watchers and its least deadline.
use Rattle.std.proofs.Common.{◌≡◌, ◌<◌, ◌≤◌, ◌+◌, ℕ, List, [], ◌∷◌, ◌++◌, Bool, true, false, not, ◌==◌, cond, Option, Some, None, All, map, filter, length, take, get_or}
use Rattle.std.proofs.Common.{refl, sym, ap, subst, ◌∙◌, arith}
use Rattle.std.specs.Prelude.{IfSome, nat_le, fold, if◌then◌else◌}
use Rattle.std.proofs.lemmas.Bool.Decides.{nat_tests}
use Rattle.std.proofs.lemmas.List.{map-append, take_more}
use Rattle.std.proofs.lemmas.List.Elements.{All-cons, All-head, All-tail, All-push, All-nil, All-filter, All-weaker, filter-append}
use Rattle.s6_events.specs.Rising.{AreRising}
use Rattle.s6_events.specs.declared.moment.Moment.{Moment}
use Rattle.wait_conditions.specs.declared.waiter.Waiter.{Waiter}
use Rattle.wait_conditions.specs.declared.watchers.Watcher.{Watcher}
use Rattle.wait_conditions.specs.Kept.{StoredWaiter, waiter_view, still_waits, is_other, lower, older, oldest_place, with_moments}
use Rattle.wait_conditions.specs.WaitsFields.{waiters_view}
use Rattle.wait_conditions.specs.Watchers.{AreIndexed, AreDueFrom, BeganInOrder, IsDueFrom, earlier, serials_of, serials_where, watches}
use Rattle.wait_conditions.proofs.Filtered.{filter_yes, filter_no}
use Rattle.wait_conditions.proofs.Leaving.{id_stays, deadline_stays}
use Rattle.wait_conditions.proofs.Oldest.{waited_before, place_stays}
use Rattle.wait_conditions.proofs.Searching.{serials}

-- the least deadline
if_some_below : (a b : ℕ) (o : Option ℕ) → a ≤ b → IfSome o (λ d. b ≤ d) → IfSome o (λ d. a ≤ d)
if_some_below a b None le h = tt
if_some_below a b (Some d) le h = omega (arith, le, h)

earlier_low : (due : ℕ) (o : Option ℕ) → earlier due o ≤ due
earlier_low due None = omega arith
earlier_low due (Some d) = grind (arith, nat_tests)

earlier_at : (due : ℕ) (o : Option ℕ) → IfSome o (λ d. earlier due o ≤ d)
earlier_at due None = tt
earlier_at due (Some d) = grind (arith, nat_tests)

due_sooner : (due : ℕ) (o : Option ℕ) (ks : List StoredWaiter) → AreDueFrom due ks → AreDueFrom (earlier due o) ks
due_sooner due o ks h = All-weaker (IsDueFrom due) (IsDueFrom (earlier due o))
    (λ k d w. if_some_below (earlier due o) due k.deadline (earlier_low due o) (d w)) ks h

pub due_push : (due : ℕ) (k : StoredWaiter) (ks : List StoredWaiter) → AreDueFrom due ks → AreDueFrom (earlier due k.deadline) (ks ++ k ∷ [])
due_push due k ks h = All-push (IsDueFrom (earlier due k.deadline)) ks k (due_sooner due k.deadline ks h) (λ w. earlier_at due k.deadline)

pub due_push_released : (due : ℕ) (k : StoredWaiter) (ks : List StoredWaiter) → still_waits k ≡ false → AreDueFrom due ks
    → AreDueFrom due (ks ++ k ∷ [])
due_push_released due k ks off h = All-push (IsDueFrom due) ks k h (λ w. let bad : true ≡ false = sym w ∙ off in cc)

pub due_moments : (due : ℕ) (ms : List Moment) (ks : List StoredWaiter) → AreDueFrom due ks → AreDueFrom due (map (with_moments ms) ks)
due_moments due ms [] h = h
due_moments due ms (k ∷ ks) h =
    All-cons (IsDueFrom due) (with_moments ms k) (map (with_moments ms) ks)
    (λ w. subst (λ o. IfSome o (λ d. due ≤ d)) (sym (deadline_stays ms k)) (All-head (IsDueFrom due) k ks h (waited_before ms k w)))
    (due_moments due ms ks (All-tail (IsDueFrom due) k ks h))

-- one waiter more of those that are looked at
pub view_more : (ws : List Waiter) (i : ℕ) (w : Waiter) → i < length ws → w ≡ get_or ws i w
    → waiters_view (take (i + 1) ws) ≡ waiters_view (take i ws) ++ waiter_view w ∷ []
view_more ws i w lt is =
    ap waiters_view (take_more ws i w lt ∙ ap (λ x. take i ws ++ x ∷ []) (sym is)) ∙ map-append waiter_view (take i ws) (w ∷ [])

-- the order in which they began
pub began_push : (k : StoredWaiter) (ks : List StoredWaiter) → BeganInOrder ks → All (λ j. j.place ≤ k.place) ks → BeganInOrder (ks ++ k ∷ [])
began_push k [] b h = (All-nil (λ (j : StoredWaiter). k.place ≤ j.place), tt)
began_push k (j ∷ ks) b h = (
  All-push (λ (i : StoredWaiter). j.place ≤ i.place) ks k b.0 (All-head (λ (i : StoredWaiter). i.place ≤ k.place) j ks h),
  began_push k ks b.1 (All-tail (λ (i : StoredWaiter). i.place ≤ k.place) j ks h),
)

began_if : (b : Bool) (k : StoredWaiter) (js : List StoredWaiter) → All (λ j. k.place ≤ j.place) js → BeganInOrder js
    → BeganInOrder (cond b (k ∷ js) js)
began_if true k js a o = (a, o)
began_if false k js a o = o

pub began_left : (p : StoredWaiter → Bool) (ks : List StoredWaiter) → BeganInOrder ks → BeganInOrder (filter p ks)
began_left p [] b = tt
began_left p (k ∷ ks) b = began_if (p k) k (filter p ks) (All-filter p (λ (j : StoredWaiter). k.place ≤ j.place) ks b.0) (began_left p ks b.1)

places_map : (n : ℕ) (ms : List Moment) (ks : List StoredWaiter) → All (λ j. n ≤ j.place) ks → All (λ j. n ≤ j.place) (map (with_moments ms) ks)
places_map n ms [] h = h
places_map n ms (k ∷ ks) h =
    All-cons (λ (j : StoredWaiter). n ≤ j.place) (with_moments ms k) (map (with_moments ms) ks)
    (subst (λ q. n ≤ q) (sym (place_stays ms k)) (All-head (λ (j : StoredWaiter). n ≤ j.place) k ks h))
    (places_map n ms ks (All-tail (λ (j : StoredWaiter). n ≤ j.place) k ks h))

pub began_moments : (ms : List Moment) (ks : List StoredWaiter) → BeganInOrder ks → BeganInOrder (map (with_moments ms) ks)
began_moments ms [] b = tt
began_moments ms (k ∷ ks) b = (
  subst (λ n. All (λ (j : StoredWaiter). n ≤ j.place) (map (with_moments ms) ks)) (sym (place_stays ms k)) (places_map k.place ms ks b.0),
  began_moments ms ks b.1,
)

-- the first that waits is the oldest that does
no_lower : (n q : ℕ) → n ≤ q → (if nat_le n q then n else q) ≡ n
no_lower n q le = grind (arith, nat_tests)

none_older : (n : ℕ) (k : StoredWaiter) (b : Bool) → n ≤ k.place → (if b then Some (lower (Some n) k.place) else Some n) ≡ Some n
none_older n k true le = ap Some (no_lower n k.place le)
none_older n k false le = refl

oldest_first : (n : ℕ) (ks : List StoredWaiter) → All (λ j. n ≤ j.place) ks → fold older (Some n) ks ≡ Some n
oldest_first n [] h = refl
oldest_first n (k ∷ ks) h =
    ap (λ o. fold older o ks) (none_older n k (still_waits k) (All-head (λ (j : StoredWaiter). n ≤ j.place) k ks h))
    ∙ oldest_first n ks (All-tail (λ (j : StoredWaiter). n ≤ j.place) k ks h)

pub oldest_is : (k : StoredWaiter) (ks : List StoredWaiter) → BeganInOrder (k ∷ ks) → still_waits k ≡ true → oldest_place (k ∷ ks) ≡ Some k.place
oldest_is k ks b w = ap (λ c. fold older (if c then Some k.place else None) ks) w ∙ oldest_first k.place ks b.0

-- the watchers of one more waiter, and of one less
pub indexed_push : (old new : List Watcher) (k : StoredWaiter) (ks : List StoredWaiter) → AreIndexed old ks
    → ((sid : ℕ) → serials_of sid new ≡ serials_of sid old ++ serials_where (watches sid) (k ∷ [])) → AreIndexed new (ks ++ k ∷ [])
indexed_push old new k ks h more = λ sid.
    more sid
    ∙ (ap (λ is. is ++ serials_where (watches sid) (k ∷ [])) (h sid)
    ∙ (sym (map-append (λ (j : StoredWaiter). j.id) (filter (watches sid) ks) (filter (watches sid) (k ∷ [])))
    ∙ ap serials (sym (filter-append (watches sid) ks (k ∷ [])))))

others_of : (id : ℕ) (q : StoredWaiter → Bool) (ks : List StoredWaiter)
    → filter (λ i. not (i == id)) (serials_where q ks) ≡ serials_where q (filter (is_other id) ks)
others_of id q [] = refl
others_of id q (k ∷ ks) = by (q k) (k.id == id) refl refl (others_of id q ks)
  where
    by : (b c : Bool) → q k ≡ b → (k.id == id) ≡ c → filter (λ i. not (i == id)) (serials_where q ks) ≡ serials_where q (filter (is_other id) ks)
        → filter (λ i. not (i == id)) (serials_where q (k ∷ ks)) ≡ serials_where q (filter (is_other id) (k ∷ ks))
    by true true e f rest =
        ap (λ js. filter (λ i. not (i == id)) (serials js)) (filter_yes q k ks e)
        ∙ (filter_no (λ i. not (i == id)) k.id (serials_where q ks) (ap not f)
        ∙ (rest ∙ ap (serials_where q) (sym (filter_no (is_other id) k ks (ap not f)))))
    by true false e f rest =
        ap (λ js. filter (λ i. not (i == id)) (serials js)) (filter_yes q k ks e)
        ∙ (filter_yes (λ i. not (i == id)) k.id (serials_where q ks) (ap not f)
        ∙ (ap (λ is. k.id ∷ is) rest
        ∙ (ap serials (sym (filter_yes q k (filter (is_other id) ks) e)) ∙ ap (serials_where q) (sym (filter_yes (is_other id) k ks (ap not f))))))
    by false true e f rest =
        ap (λ js. filter (λ i. not (i == id)) (serials js)) (filter_no q k ks e)
        ∙ (rest ∙ ap (serials_where q) (sym (filter_no (is_other id) k ks (ap not f))))
    by false false e f rest =
        ap (λ js. filter (λ i. not (i == id)) (serials js)) (filter_no q k ks e)
        ∙ (rest ∙ (ap serials (sym (filter_no q k (filter (is_other id) ks) e))
        ∙ ap (serials_where q) (sym (filter_yes (is_other id) k ks (ap not f)))))

pub indexed_left : (old new : List Watcher) (id : ℕ) (ks : List StoredWaiter) → AreIndexed old ks
    → ((sid : ℕ) → serials_of sid new ≡ filter (λ i. not (i == id)) (serials_of sid old)) → AreIndexed new (filter (is_other id) ks)
indexed_left old new id ks h less = λ sid. less sid ∙ (ap (filter (λ i. not (i == id))) (h sid) ∙ others_of id (watches sid) ks)

serials_map : (ms : List Moment) (ks : List StoredWaiter) → serials (map (with_moments ms) ks) ≡ serials ks
serials_map ms [] = refl
serials_map ms (k ∷ ks) = ap (λ i. i ∷ serials (map (with_moments ms) ks)) (id_stays ms k) ∙ ap (λ is. k.id ∷ is) (serials_map ms ks)

pub rising_moments : (ms : List Moment) (ks : List StoredWaiter) → AreRising (serials ks) → AreRising (serials (map (with_moments ms) ks))
rising_moments ms ks r = subst AreRising (sym (serials_map ms ks)) r

-- serials and places of a whole list are kept below
pub below_moments : (n : ℕ) (ms : List Moment) (ks : List StoredWaiter) → All (λ k. k.id < n) ks → All (λ k. k.id < n) (map (with_moments ms) ks)
below_moments n ms [] h = h
below_moments n ms (k ∷ ks) h =
    All-cons (λ (j : StoredWaiter). j.id < n) (with_moments ms k) (map (with_moments ms) ks)
    (subst (λ q. q < n) (sym (id_stays ms k)) (All-head (λ (j : StoredWaiter). j.id < n) k ks h))
    (below_moments n ms ks (All-tail (λ (j : StoredWaiter). j.id < n) k ks h))

pub placed_moments : (n : ℕ) (ms : List Moment) (ks : List StoredWaiter) → All (λ k. k.place ≤ n) ks
    → All (λ k. k.place ≤ n) (map (with_moments ms) ks)
placed_moments n ms [] h = h
placed_moments n ms (k ∷ ks) h =
    All-cons (λ (j : StoredWaiter). j.place ≤ n) (with_moments ms k) (map (with_moments ms) ks)
    (subst (λ q. q ≤ n) (sym (place_stays ms k)) (All-head (λ (j : StoredWaiter). j.place ≤ n) k ks h))
    (placed_moments n ms ks (All-tail (λ (j : StoredWaiter). j.place ≤ n) k ks h))
