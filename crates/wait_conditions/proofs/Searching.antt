-- Waiters that are found by their serials, one after the other.
use Rattle.std.proofs.Common.{◌≡◌, ◌<◌, ◌≤◌, ◌+◌, ◌-◌, ℕ, List, [], ◌∷◌, ◌++◌, Bool, true, false, not, ◌==◌, ◌&&◌, cond, length, take, drop, filter, map, get_or, set}
use Rattle.std.proofs.Common.{refl, sym, ap, subst, ◌∙◌, arith, zero, suc, append_assoc, append-nil, rules}
use Rattle.std.specs.Prelude.{nat_lt, if◌then◌else◌}
use Rattle.std.specs.List.{list_any}
use Rattle.std.specs.List.Sorted.{IsNonDecreasingBy}
use Rattle.std.proofs.Math.Seq.{take-add, drop-append_seam}
use Rattle.std.proofs.lemmas.Bool.Decides.{nat_tests}
use Rattle.std.proofs.lemmas.List.{drop_more, map-append, take-append-drop, drop-drop, get_or-drop, length-drop, length-map, length-take-le}
use Rattle.std.proofs.lemmas.List.Elements.{filter-append, filter_more}
use Rattle.s6_events.specs.Rising.{AreAbove, AreRising}
use Rattle.wait_conditions.specs.declared.waiter.Waiter.{Waiter}
use Rattle.wait_conditions.specs.declared.watched_service.WatchedService.{WatchedService}
use Rattle.wait_conditions.specs.declared.watchers.Watcher.{Watcher}
use Rattle.wait_conditions.specs.Kept.{StoredWaiter, waiter_view, still_waits}
use Rattle.wait_conditions.specs.WaitsFields.{waiters_view}
use Rattle.wait_conditions.specs.Watchers.{AreIndexed, IsFirst, serials_of, serials_where, watches}
use Rattle.wait_conditions.proofs.Filtered.{filter_yes, filter_no}

abbrev pub serials : List StoredWaiter → List ℕ
serials ks = map (λ (k : StoredWaiter). k.id) ks

-- serials that rise don't fall
above_at : (n : ℕ) (ws : List Waiter) (j : ℕ) (d : Waiter) → AreAbove n (serials (waiters_view ws)) → j < length ws → n < (get_or ws j d).id
above_at n [] j d a lt = absurd (omega (arith, lt))
above_at n (w ∷ ws) zero d a lt = a.0
above_at n (w ∷ ws) (suc j) d a lt = above_at n ws j d a.1 (omega (arith, lt))

pub none_fall : (ws : List Waiter) → AreRising (serials (waiters_view ws)) → IsNonDecreasingBy (λ (w : Waiter). w.id) ws
none_fall [] r i j d le lt = absurd (omega (arith, lt))
none_fall (w ∷ ws) r zero zero d le lt = omega arith
none_fall (w ∷ ws) r zero (suc j) d le lt = let above = above_at w.id ws j d r.0 (omega (arith, lt)) in omega (arith, above)
none_fall (w ∷ ws) r (suc i) zero d le lt = absurd (omega (arith, le))
none_fall (w ∷ ws) r (suc i) (suc j) d le lt = none_fall ws r.1 i j d (omega (arith, le)) (omega (arith, lt))

pub rising_drop : (n : ℕ) (ks : List StoredWaiter) → AreRising (serials ks) → AreRising (serials (drop n ks))
rising_drop zero ks r = r
rising_drop (suc n) [] r = r
rising_drop (suc n) (k ∷ ks) r = rising_drop n ks r.1

-- the first serial of those that pass
head_is : (a b : ℕ) (ms ns : List ℕ) → a ∷ ms ≡ b ∷ ns → a ≡ b
head_is a b ms ns e = search rules

tail_is : (a b : ℕ) (ms ns : List ℕ) → a ∷ ms ≡ b ∷ ns → ms ≡ ns
tail_is a b ms ns e = search rules

above_by : (p : StoredWaiter → Bool) (k : StoredWaiter) (ks : List StoredWaiter) (n id : ℕ) (rest : List ℕ) (b : Bool) → n < k.id
    → (serials_where p ks ≡ id ∷ rest → n < id) → serials (cond b (k ∷ filter p ks) (filter p ks)) ≡ id ∷ rest → n < id
above_by p k ks n id rest true lt before e = let here = head_is k.id id (serials (filter p ks)) rest e in omega (arith, lt, here)
above_by p k ks n id rest false lt before e = before e

first_above : (p : StoredWaiter → Bool) (ks : List StoredWaiter) (n id : ℕ) (rest : List ℕ) → AreAbove n (serials ks) → serials_where p ks ≡ id ∷ rest
    → n < id
first_above p [] n id rest a e = cc
first_above p (k ∷ ks) n id rest a e = above_by p k ks n id rest (p k) a.0 (first_above p ks n id rest a.1) e

-- where a search by a serial stops, stands the first waiter that passes, if that is its serial
found_by : (p : StoredWaiter → Bool) (w : Waiter) (ws : List Waiter) (id : ℕ) (rest : List ℕ) (j : ℕ) (b : Bool) → p (waiter_view w) ≡ b
    → AreRising (serials (waiters_view (w ∷ ws)))
    → serials (cond b (waiter_view w ∷ filter p (waiters_view ws)) (filter p (waiters_view ws))) ≡ id ∷ rest
    → j ≤ length (w ∷ ws)
    → ((k : ℕ) (d : Waiter) → k < j → nat_lt (get_or (w ∷ ws) k d).id id ≡ true)
    → ((k : ℕ) (d : Waiter) → j ≤ k → k < length (w ∷ ws) → nat_lt (get_or (w ∷ ws) k d).id id ≡ false)
    → ((i : ℕ) → serials_where p (waiters_view ws) ≡ id ∷ rest → i ≤ length ws
    → ((k : ℕ) (d : Waiter) → k < i → nat_lt (get_or ws k d).id id ≡ true)
    → ((k : ℕ) (d : Waiter) → i ≤ k → k < length ws → nat_lt (get_or ws k d).id id ≡ false)
    → IsFirst p (waiters_view ws) rest i)
    → IsFirst p (waiters_view (w ∷ ws)) rest j
found_by p w ws id rest zero true e r s l below above next = record {
  within = omega arith;
  none_before = refl;
  passes = λ d. e;
  left = tail_is w.id id (serials (filter p (waiters_view ws))) rest s;
}
found_by p w ws id rest (suc j) true e r s l below above next =
    let here = head_is w.id id (serials (filter p (waiters_view ws))) rest s in
    let low = below 0 w (omega arith) in
    absurd (not_below w.id id here low)
  where
    not_below : (a b : ℕ) → a ≡ b → nat_lt a b ≡ true → ⊥
    not_below a b h k = grind (arith, nat_tests)
found_by p w ws id rest zero false e r s l below above next =
    let low = first_above p (waiters_view ws) w.id id rest r.0 s in
    let high = above 0 w (omega arith) (omega arith) in
    absurd (not_above w.id id low high)
  where
    not_above : (a b : ℕ) → a < b → nat_lt a b ≡ false → ⊥
    not_above a b h k = grind (arith, nat_tests)
found_by p w ws id rest (suc j) false e r s l below above next =
    let one = next j s (omega (arith, l)) (λ k d lt. below (suc k) d (omega (arith, lt)))
    (λ k d a lt. above (suc k) d (omega (arith, a)) (omega (arith, lt))) in
    let on : suc j + 1 ≡ suc (j + 1) = omega arith in
    record {
      within = omega (arith, one.within);
      none_before = filter_no p (waiter_view w) (take j (waiters_view ws)) e ∙ one.none_before;
      passes = one.passes;
      left = ap (λ n. serials_where p (drop n (waiters_view (w ∷ ws)))) on ∙ one.left;
    }

pub found : (p : StoredWaiter → Bool) (ws : List Waiter) (id : ℕ) (rest : List ℕ) (j : ℕ) → AreRising (serials (waiters_view ws))
    → serials_where p (waiters_view ws) ≡ id ∷ rest → j ≤ length ws
    → ((k : ℕ) (d : Waiter) → k < j → nat_lt (get_or ws k d).id id ≡ true)
    → ((k : ℕ) (d : Waiter) → j ≤ k → k < length ws → nat_lt (get_or ws k d).id id ≡ false)
    → IsFirst p (waiters_view ws) rest j
found p [] id rest j r s l below above = cc
found p (w ∷ ws) id rest j r s l below above =
    found_by p w ws id rest j (p (waiter_view w)) refl r s l below above
    (λ i s' l' b' a'. found p ws id rest i r.1 s' l' b' a')

-- up to the one that is found, and from the one after it
split_at : {X : Type 0} (s place : ℕ) (ks : List X) → s ≤ place → take (place + 1) ks ≡ take s ks ++ take (place - s + 1) (drop s ks)
split_at s place ks le = let whole : place + 1 ≡ s + (place - s + 1) = omega (arith, le) in ap (λ n. take n ks) whole ∙ take-add s (place - s + 1) ks

pub drop_on : {X : Type 0} (s place : ℕ) (ks : List X) → s ≤ place → drop (place - s + 1) (drop s ks) ≡ drop (place + 1) ks
drop_on s place ks le =
    let whole : s + (place - s + 1) ≡ place + 1 = omega (arith, le) in drop-drop (place - s + 1) s ks ∙ ap (λ n. drop n ks) whole

chosen : {X : Type 0} (p : X → Bool) (x : X) → p x ≡ true → cond (p x) (x ∷ []) [] ≡ x ∷ []
chosen p x h = ap (λ b. cond b (x ∷ []) []) h

pub kept_more : (p : StoredWaiter → Bool) (s place : ℕ) (ks : List StoredWaiter) (rest : List ℕ) (k : StoredWaiter) → s ≤ place
    → IsFirst p (drop s ks) rest (place - s) → k ≡ get_or ks place k → filter p (take s ks) ++ k ∷ [] ≡ filter p (take (place + 1) ks)
kept_more p s place ks rest k le first is =
    let at : get_or (drop s ks) (place - s) k ≡ k =
    get_or-drop s ks (place - s) k ∙ (let whole : s + (place - s) ≡ place = omega (arith, le) in ap (λ n. get_or ks n k) whole ∙ sym is) in
    sym (ap (filter p) (split_at s place ks le)
    ∙ (filter-append p (take s ks) (take (place - s + 1) (drop s ks))
    ∙ ap (λ js. filter p (take s ks) ++ js)
    (filter_more p (drop s ks) (place - s) k first.within
    ∙ (ap (λ js. js ++ cond (p (get_or (drop s ks) (place - s) k)) (get_or (drop s ks) (place - s) k ∷ []) []) first.none_before
    ∙ (chosen p (get_or (drop s ks) (place - s) k) (first.passes k) ∙ ap (λ j. j ∷ []) at)))))

-- where none is left that passes
none_left : (p : StoredWaiter → Bool) (k : StoredWaiter) (b : Bool) (js : List StoredWaiter) → serials (cond b (k ∷ js) js) ≡ []
    → (b ≡ false) × (serials js ≡ [])
none_left p k true js h = cc
none_left p k false js h = (refl, h)

pub none_from : (p : StoredWaiter → Bool) (ks : List StoredWaiter) → serials_where p ks ≡ [] → filter p ks ≡ []
none_from p [] h = refl
none_from p (k ∷ ks) h =
    let off = none_left p k (p k) (filter p ks) h in
    filter_no p k ks off.0 ∙ none_from p ks off.1

pub kept_all : (p : StoredWaiter → Bool) (s : ℕ) (ks : List StoredWaiter) → serials_where p (drop s ks) ≡ [] → filter p (take s ks) ≡ filter p ks
kept_all p s ks none =
    sym (append-nil (filter p (take s ks)))
    ∙ (ap (λ js. filter p (take s ks) ++ js) (sym (none_from p (drop s ks) none))
    ∙ (sym (filter-append p (take s ks) (drop s ks)) ∙ ap (filter p) (take-append-drop s ks)))

-- those that don't pass are left as they are
unmoved_by : (p : StoredWaiter → Bool) (F : StoredWaiter → StoredWaiter) (k : StoredWaiter) (ks js : List StoredWaiter) (b : Bool) → p k ≡ b
    → (p k ≡ false → F k ≡ k) → (filter p ks ≡ [] → map F ks ≡ ks) → cond b (k ∷ filter p ks) (filter p ks) ≡ [] → map F (k ∷ ks) ≡ k ∷ ks
unmoved_by p F k ks js true e one rest h = cc
unmoved_by p F k ks js false e one rest h = ap (λ j. j ∷ map F ks) (one e) ∙ ap (λ is. k ∷ is) (rest h)

pub unmoved_all : (p : StoredWaiter → Bool) (F : StoredWaiter → StoredWaiter) → ((k : StoredWaiter) → p k ≡ false → F k ≡ k)
    → (ks : List StoredWaiter) → filter p ks ≡ [] → map F ks ≡ ks
unmoved_all p F one [] h = refl
unmoved_all p F one (k ∷ ks) h = unmoved_by p F k ks [] (p k) refl (one k) (unmoved_all p F one ks) h

-- changed up to a place, and so up to the next one that passes
pub skip_on : (p : StoredWaiter → Bool) (F : StoredWaiter → StoredWaiter) → ((k : StoredWaiter) → p k ≡ false → F k ≡ k)
    → (s place : ℕ) (ks cur : List StoredWaiter) → s ≤ place → filter p (take (place - s) (drop s ks)) ≡ []
    → cur ≡ map F (take s ks) ++ drop s ks → cur ≡ map F (take place ks) ++ drop place ks
skip_on p F one s place ks cur le none now =
    let whole : place ≡ s + (place - s) = omega (arith, le) in
    let back : s + (place - s) ≡ place = omega (arith, le) in
    let middle = take (place - s) (drop s ks) in
    let rest : drop (place - s) (drop s ks) ≡ drop place ks = drop-drop (place - s) s ks ∙ ap (λ n. drop n ks) back in
    let front : map F (take place ks) ≡ map F (take s ks) ++ middle =
    ap (λ n. map F (take n ks)) whole
    ∙ (ap (map F) (take-add s (place - s) ks)
    ∙ (map-append F (take s ks) middle ∙ ap (λ js. map F (take s ks) ++ js) (unmoved_all p F one middle none))) in
    now
    ∙ (ap (λ js. map F (take s ks) ++ js) (sym (take-append-drop (place - s) (drop s ks)))
    ∙ (sym (append_assoc (map F (take s ks)) middle (drop (place - s) (drop s ks)))
    ∙ (ap (λ js. js ++ drop (place - s) (drop s ks)) (sym front)
    ∙ ap (λ js. map F (take place ks) ++ js) rest)))

pub changed_all : (p : StoredWaiter → Bool) (F : StoredWaiter → StoredWaiter) → ((k : StoredWaiter) → p k ≡ false → F k ≡ k)
    → (s : ℕ) (ks cur : List StoredWaiter) → serials_where p (drop s ks) ≡ [] → cur ≡ map F (take s ks) ++ drop s ks → cur ≡ map F ks
changed_all p F one s ks cur none now =
    now
    ∙ (ap (λ js. map F (take s ks) ++ js) (sym (unmoved_all p F one (drop s ks) (none_from p (drop s ks) none)))
    ∙ (sym (map-append F (take s ks) (drop s ks)) ∙ ap (map F) (take-append-drop s ks)))

-- what passes elsewhere, where one waiter is changed
all_other : (n : ℕ) (q : StoredWaiter → Bool) (ks : List StoredWaiter) → AreAbove n (serials ks)
    → filter (λ i. not (i == n)) (serials_where q ks) ≡ serials_where q ks
all_other n q [] a = refl
all_other n q (k ∷ ks) a = by (q k) (all_other n q ks a.1)
  where
    differs : (a b : ℕ) → b < a → not (a == b) ≡ true
    differs a b lt = grind (arith, nat_tests)

    by : (b : Bool) → filter (λ i. not (i == n)) (serials_where q ks) ≡ serials_where q ks
        → filter (λ i. not (i == n)) (serials (cond b (k ∷ filter q ks) (filter q ks))) ≡ serials (cond b (k ∷ filter q ks) (filter q ks))
    by true rest = filter_yes (λ i. not (i == n)) k.id (serials_where q ks) (differs k.id n a.0) ∙ ap (λ is. k.id ∷ is) rest
    by false rest = rest

pub same_set : (q : StoredWaiter → Bool) (ks : List StoredWaiter) (i : ℕ) (k d : StoredWaiter) → i < length ks → k.id ≡ (get_or ks i d).id
    → q k ≡ q (get_or ks i d) → serials_where q (set ks i k) ≡ serials_where q ks
same_set q [] i k d lt e h = absurd (omega (arith, lt))
same_set q (j ∷ ks) zero k d lt e h = ap (λ b. serials (cond b (k ∷ filter q ks) (filter q ks))) h ∙ by (q j)
  where
    by : (b : Bool) → serials (cond b (k ∷ filter q ks) (filter q ks)) ≡ serials (cond b (j ∷ filter q ks) (filter q ks))
    by true = ap (λ i. i ∷ serials (filter q ks)) e
    by false = refl
same_set q (j ∷ ks) (suc i) k d lt e h = by (q j) (same_set q ks i k d (omega (arith, lt)) e h)
  where
    by : (b : Bool) → serials_where q (set ks i k) ≡ serials_where q ks
        → serials (cond b (j ∷ filter q (set ks i k)) (filter q (set ks i k))) ≡ serials (cond b (j ∷ filter q ks) (filter q ks))
    by true rest = ap (λ is. j.id ∷ is) rest
    by false rest = rest

pub less_set : (q : StoredWaiter → Bool) (ks : List StoredWaiter) (i : ℕ) (k d : StoredWaiter) → AreRising (serials ks) → i < length ks
    → q k ≡ false → serials_where q (set ks i k) ≡ filter (λ id. not (id == (get_or ks i d).id)) (serials_where q ks)
less_set q [] i k d r lt h = absurd (omega (arith, lt))
less_set q (j ∷ ks) zero k d r lt h = ap serials (filter_no q k ks h) ∙ by (q j)
  where
    same : (n : ℕ) → not (n == n) ≡ false
    same n = grind (arith, nat_tests)

    by : (b : Bool) → serials_where q ks ≡ filter (λ id. not (id == j.id)) (serials (cond b (j ∷ filter q ks) (filter q ks)))
    by true = sym (filter_no (λ id. not (id == j.id)) j.id (serials_where q ks) (same j.id) ∙ all_other j.id q ks r.0)
    by false = sym (all_other j.id q ks r.0)
less_set q (j ∷ ks) (suc i) k d r lt h = by (q j) (less_set q ks i k d r.1 (omega (arith, lt)) h)
  where
    at : (ks : List StoredWaiter) (n i : ℕ) → AreAbove n (serials ks) → i < length ks → n < (get_or ks i d).id
    at [] n i a lt = absurd (omega (arith, lt))
    at (k ∷ ks) n zero a lt = a.0
    at (k ∷ ks) n (suc i) a lt = at ks n i a.1 (omega (arith, lt))

    differs : (a b : ℕ) → a < b → not (a == b) ≡ true
    differs a b lt = grind (arith, nat_tests)

    by : (b : Bool) → serials_where q (set ks i k) ≡ filter (λ id. not (id == (get_or ks i d).id)) (serials_where q ks)
        → serials (cond b (j ∷ filter q (set ks i k)) (filter q (set ks i k)))
        ≡ filter (λ id. not (id == (get_or ks i d).id)) (serials (cond b (j ∷ filter q ks) (filter q ks)))
    by true rest =
        ap (λ is. j.id ∷ is) rest
        ∙ sym (filter_yes (λ id. not (id == (get_or ks i d).id)) j.id (serials_where q ks)
        (differs j.id (get_or ks i d).id (at ks j.id i r.0 (omega (arith, lt)))))
    by false rest = rest

serials_set : (ks : List StoredWaiter) (i : ℕ) (k d : StoredWaiter) → i < length ks → k.id ≡ (get_or ks i d).id → serials (set ks i k) ≡ serials ks
serials_set [] i k d lt e = absurd (omega (arith, lt))
serials_set (j ∷ ks) zero k d lt e = ap (λ i. i ∷ serials ks) e
serials_set (j ∷ ks) (suc i) k d lt e = ap (λ is. j.id ∷ is) (serials_set ks i k d (omega (arith, lt)) e)

pub rising_set : (ks : List StoredWaiter) (i : ℕ) (k d : StoredWaiter) → i < length ks → k.id ≡ (get_or ks i d).id → AreRising (serials ks)
    → AreRising (serials (set ks i k))
rising_set ks i k d lt e r = subst AreRising (sym (serials_set ks i k d lt e)) r

-- the watchers, where one waiter is changed
pub indexed_set : (old new : List Watcher) (ks : List StoredWaiter) (i : ℕ) (k d : StoredWaiter) → AreRising (serials ks) → i < length ks
    → AreIndexed old ks → k.id ≡ (get_or ks i d).id → (still_waits k ≡ true → (sid : ℕ) → watches sid k ≡ watches sid (get_or ks i d))
    → ((sid : ℕ) → serials_of sid new
    ≡ (if still_waits k then serials_of sid old else filter (λ id. not (id == (get_or ks i d).id)) (serials_of sid old)))
    → AreIndexed new (set ks i k)
indexed_set old new ks i k d r lt h e alike left = λ sid. by sid (still_waits k) refl (left sid)
  where
    by : (sid : ℕ) (b : Bool) → still_waits k ≡ b
        → serials_of sid new ≡ (if b then serials_of sid old else filter (λ id. not (id == (get_or ks i d).id)) (serials_of sid old))
        → serials_of sid new ≡ serials_where (watches sid) (set ks i k)
    by sid true w is = is ∙ (h sid ∙ sym (same_set (watches sid) ks i k d lt e (alike w sid)))
    by sid false w is =
        is ∙ (ap (filter (λ id. not (id == (get_or ks i d).id))) (h sid)
        ∙ sym (less_set (watches sid) ks i k d r lt (ap (λ b. b && list_any (λ (v : WatchedService). v.sid == sid) k.watched) w)))

-- what is there from a place on, where what stands before it was changed
pub rest_is : (F : StoredWaiter → StoredWaiter) (s : ℕ) (ks cur : List StoredWaiter) → s ≤ length ks → cur ≡ map F (take s ks) ++ drop s ks
    → drop s cur ≡ drop s ks
rest_is F s ks cur le now =
    let long : length (map F (take s ks)) ≡ s = length-map (take s ks) F ∙ length-take-le s ks le in
    ap (drop s) now
    ∙ (ap (λ n. drop n (map F (take s ks) ++ drop s ks)) (sym long) ∙ drop-append_seam (map F (take s ks)) (drop s ks))

pub at_rest : (s place : ℕ) (ks cur : List StoredWaiter) (d : StoredWaiter) → s ≤ place → drop s cur ≡ drop s ks
    → get_or cur place d ≡ get_or ks place d
at_rest s place ks cur d le same =
    let whole : s + (place - s) ≡ place = omega (arith, le) in
    ap (λ n. get_or cur n d) (sym whole)
    ∙ (sym (get_or-drop s cur (place - s) d)
    ∙ (ap (λ xs. get_or xs (place - s) d) same ∙ (get_or-drop s ks (place - s) d ∙ ap (λ n. get_or ks n d) whole)))

-- the next of these serials, and where it stands
pub next_first : (F : StoredWaiter → StoredWaiter) (p : StoredWaiter → Bool) (s place n id : ℕ) (ks cur : List StoredWaiter) (ids : List ℕ)
    → s ≤ length ks → cur ≡ map F (take s ks) ++ drop s ks → drop n ids ≡ serials_where p (drop s ks) → n < length ids → id ≡ get_or ids n id
    → ((q : StoredWaiter → Bool) (rest : List ℕ) → serials_where q (drop s cur) ≡ id ∷ rest → IsFirst q (drop s cur) rest (place - s))
    → IsFirst p (drop s ks) (drop (n + 1) ids) (place - s)
next_first F p s place n id ks cur ids le now left lt is at =
    let same = rest_is F s ks cur le now in
    subst (λ js. IsFirst p js (drop (n + 1) ids) (place - s)) same
    (at p (drop (n + 1) ids)
    (ap (serials_where p) same ∙ (sym left ∙ (drop_more ids n id lt ∙ ap (λ x. x ∷ drop (n + 1) ids) (sym is)))))

pub next_inside : (F : StoredWaiter → StoredWaiter) (p : StoredWaiter → Bool) (s place n id : ℕ) (ks cur : List StoredWaiter) (ids : List ℕ)
    → s ≤ length ks → cur ≡ map F (take s ks) ++ drop s ks → drop n ids ≡ serials_where p (drop s ks) → n < length ids → id ≡ get_or ids n id
    → s ≤ place
    → ((q : StoredWaiter → Bool) (rest : List ℕ) → serials_where q (drop s cur) ≡ id ∷ rest → IsFirst q (drop s cur) rest (place - s))
    → place < length ks
next_inside F p s place n id ks cur ids le now left lt is from at =
    let first = next_first F p s place n id ks cur ids le now left lt is at in
    omega (arith, first.within, from, length-drop s ks)
