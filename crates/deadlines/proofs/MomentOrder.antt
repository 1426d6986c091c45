-- Timers in the order of their moments: searching one, putting one in, taking one out.
use Rattle.std.proofs.Common.{◌≡◌, refl, sym, ap, ◌∙◌, ℕ, suc, List, [], ◌∷◌, ◌++◌, Bool, true, false, not, ◌==◌, ◌+◌, ◌<◌, cond, arith, rules, take}
use Rattle.std.proofs.Common.{drop, filter, map}
use Rattle.std.proofs.lemmas.Bool.Decides.{nat_tests}
use Rattle.std.specs.Prelude.{nat_lt, nat_le, slice_get, IfSome, length, zero, get_or, sum_by, slice_set, Some, ◌⊎◌, ◌-◌, ◌/◌}
use Rattle.std.proofs.Common.{inl, inr}
use Rattle.std.specs.List.{list_all, insert, remove}
use Rattle.std.proofs.lemmas.List.Folds.{list_all_at}
use Rattle.std.proofs.lemmas.List.Sums.{sum_by-cons, sum_by-remove, sum_by-insert, sum_by-set}
use Rattle.deadlines.specs.declared.timer.Timer.{Timer}
use Rattle.deadlines.specs.Timers.{rises, due_by}
use Rattle.deadlines.specs.Queue.{is_before, in_moment_order, is_this, HaveSameTimers}
use Rattle.deadlines.proofs.Rising.{and_left, and_right, and_both, weaker}

-- what comes before a timer that passes, passes too
pub up_to : (p : Timer → Bool) (r : Timer → Timer → Bool) → ((t u : Timer) → r t u ≡ true → p u ≡ true → p t ≡ true)
    → (rest : List Timer → Bool) → ((t : Timer) (xs : List Timer) → rest (t ∷ xs) ≡ true → (list_all (r t) xs ≡ true) × (rest xs ≡ true))
    → (m : ℕ) (xs : List Timer) (d : Timer) → rest xs ≡ true → m < length xs → p (get_or xs m d) ≡ true → list_all p (take (suc m) xs) ≡ true
up_to p r down rest parts m [] d o l h = absurd (omega (arith, l))
up_to p r down rest parts zero (t ∷ xs) d o l h = and_both (p t) true h refl
up_to p r down rest parts (suc m) (t ∷ xs) d o l h =
    and_both (p t) _ (down t (get_or xs m d) (at_place (r t) m xs d (omega (arith, l)) (parts t xs o).0) h)
    (up_to p r down rest parts m xs d (parts t xs o).1 (omega (arith, l)) h)
  where
    at_place : (q : Timer → Bool) (k : ℕ) (ys : List Timer) (d : Timer) → k < length ys → list_all q ys ≡ true → q (get_or ys k d) ≡ true
    at_place q k [] d l h = absurd (omega (arith, l))
    at_place q zero (y ∷ ys) d l h = and_left (q y) _ h
    at_place q (suc k) (y ∷ ys) d l h = at_place q k ys d (omega (arith, l)) (and_right (q y) _ h)

lower : (s t u : ℕ) → nat_lt t u ≡ true → nat_lt u s ≡ true → nat_lt t s ≡ true
lower s t u h k = grind (arith, nat_tests)

pub sids_up_to : (sid m : ℕ) (xs : List Timer) (d : Timer) → rises xs ≡ true → m < length xs → nat_lt (get_or xs m d).sid sid ≡ true
    → list_all (λ t. nat_lt t.sid sid) (take (m + 1) xs) ≡ true
sids_up_to sid m xs d o l h =
    let on : m + 1 ≡ suc m = omega arith in
    ap (λ n. list_all (λ t. nat_lt t.sid sid) (take n xs)) on
    ∙ up_to (λ t. nat_lt t.sid sid) (λ t u. nat_lt t.sid u.sid) (λ t u. lower sid t.sid u.sid) rises
    (λ t ys r. (and_left (list_all (λ u. nat_lt t.sid u.sid) ys) (rises ys) r, and_right (list_all (λ u. nat_lt t.sid u.sid) ys) (rises ys) r))
    m xs d o l h

-- the order is one: of timers that don't go off before another one, none goes off before it by way of a third
not_before : (t u v : Timer) → not (is_before u t) ≡ true → is_before u v ≡ true → is_before t v ≡ true
not_before t u v h k = ordered t.at t.sid u.at u.sid v.at v.sid h k
  where
    ordered : (ta ts ua us va vs : ℕ) → not (cond (ua == ta) (nat_lt us ts) (nat_lt ua ta)) ≡ true
        → cond (ua == va) (nat_lt us vs) (nat_lt ua va) ≡ true → cond (ta == va) (nat_lt ts vs) (nat_lt ta va) ≡ true
    ordered ta ts ua us va vs h k = grind (arith, nat_tests)

still_not : (t u v : Timer) → is_before t v ≡ false → not (is_before u t) ≡ true → not (is_before u v) ≡ true
still_not t u v h k = ordered t.at t.sid u.at u.sid v.at v.sid h k
  where
    ordered : (ta ts ua us va vs : ℕ) → cond (ta == va) (nat_lt ts vs) (nat_lt ta va) ≡ false
        → not (cond (ua == ta) (nat_lt us ts) (nat_lt ua ta)) ≡ true → not (cond (ua == va) (nat_lt us vs) (nat_lt ua va)) ≡ true
    ordered ta ts ua us va vs h k = grind (arith, nat_tests)

not_both : (t v : Timer) → is_before t v ≡ true → not (is_before v t) ≡ true
not_both t v h = ordered t.at t.sid v.at v.sid h
  where
    ordered : (ta ts va vs : ℕ) → cond (ta == va) (nat_lt ts vs) (nat_lt ta va) ≡ true → not (cond (va == ta) (nat_lt vs ts) (nat_lt va ta)) ≡ true
    ordered ta ts va vs h = grind (arith, nat_tests)

pub moments_up_to : (v : Timer) (m : ℕ) (xs : List Timer) (d : Timer) → in_moment_order xs ≡ true → m < length xs
    → is_before (get_or xs m d) v ≡ true → list_all (λ t. is_before t v) (take (m + 1) xs) ≡ true
moments_up_to v m xs d o l h =
    let on : m + 1 ≡ suc m = omega arith in
    ap (λ n. list_all (λ t. is_before t v) (take n xs)) on
    ∙ up_to (λ t. is_before t v) (λ t u. not (is_before u t)) (λ t u a b. not_before t u v a b) in_moment_order
    (λ t ys r. (
      and_left (list_all (λ u. not (is_before u t)) ys) (in_moment_order ys) r,
      and_right (list_all (λ u. not (is_before u t)) ys) (in_moment_order ys) r,
    ))
    m xs d o l h

-- what the last timer passes, all pass
whole : (xs : List Timer) → take (length xs) xs ≡ xs
whole [] = refl
whole (x ∷ xs) = ap (λ ts. x ∷ ts) (whole xs)

all_below : (sid m : ℕ) (xs : List Timer) (d : Timer) → rises xs ≡ true → m + 1 ≡ length xs → nat_lt (get_or xs m d).sid sid ≡ true
    → list_all (λ t. nat_lt t.sid sid) xs ≡ true
all_below sid m xs d o last h =
    ap (λ ts. list_all (λ t. nat_lt t.sid sid) ts) (sym (whole xs))
    ∙ (ap (λ n. list_all (λ t. nat_lt t.sid sid) (take n xs)) (sym last) ∙ sids_up_to sid m xs d o (omega (arith, last)) h)

all_before : (v : Timer) (m : ℕ) (xs : List Timer) (d : Timer) → in_moment_order xs ≡ true → m + 1 ≡ length xs
    → is_before (get_or xs m d) v ≡ true → list_all (λ t. is_before t v) xs ≡ true
all_before v m xs d o last h =
    ap (λ ts. list_all (λ t. is_before t v) ts) (sym (whole xs))
    ∙ (ap (λ n. list_all (λ t. is_before t v) (take n xs)) (sym last) ∙ moments_up_to v m xs d o (omega (arith, last)) h)

-- the last timer tells of all
pub tells_of_sids : (sid m : ℕ) (xs : List Timer) (d : Timer) → rises xs ≡ true → m + 1 ≡ length xs
    → (answer : Bool) → answer ≡ nat_lt (get_or xs m d).sid sid → answer ≡ list_all (λ t. nat_lt t.sid sid) xs
tells_of_sids sid m xs d o last true h = sym (all_below sid m xs d o last (sym h))
tells_of_sids sid m xs d o last false h = sym (list_all_at (λ t. nat_lt t.sid sid) xs m d (omega (arith, last)) (sym h))

pub tells_of_moments : (v : Timer) (m : ℕ) (xs : List Timer) (d : Timer) → in_moment_order xs ≡ true → m + 1 ≡ length xs
    → (answer : Bool) → answer ≡ is_before (get_or xs m d) v → answer ≡ list_all (λ t. is_before t v) xs
tells_of_moments v m xs d o last true h = sym (all_before v m xs d o last (sym h))
tells_of_moments v m xs d o last false h = sym (list_all_at (λ t. is_before t v) xs m d (omega (arith, last)) (sym h))

-- one more at its place
all_with : (p : Timer → Bool) (k : ℕ) (v : Timer) (xs : List Timer) → list_all p xs ≡ true → p v ≡ true
    → list_all p (take k xs ++ v ∷ drop k xs) ≡ true
all_with p zero v xs h one = and_both (p v) _ one h
all_with p (suc k) v [] h one = and_both (p v) _ one h
all_with p (suc k) v (t ∷ xs) h one = and_both (p t) _ (and_left (p t) _ h) (all_with p k v xs (and_right (p t) _ h) one)

pub order_with : (k : ℕ) (v : Timer) (xs : List Timer) → in_moment_order xs ≡ true → list_all (λ t. is_before t v) (take k xs) ≡ true
    → IfSome (slice_get xs k) (λ t. is_before t v ≡ false) → in_moment_order (take k xs ++ v ∷ drop k xs) ≡ true
order_with zero v [] o b s = refl
order_with (suc k) v [] o b s = refl
order_with zero v (t ∷ xs) o b s =
    and_both (list_all (λ u. not (is_before u v)) (t ∷ xs)) (in_moment_order (t ∷ xs))
    (and_both (not (is_before t v)) _ (ap not s)
    (weaker (λ u. not (is_before u t)) (λ u. not (is_before u v)) (λ u h. still_not t u v s h) xs (and_left _ (in_moment_order xs) o))) o
order_with (suc k) v (t ∷ xs) o b s =
    and_both (list_all (λ u. not (is_before u t)) (take k xs ++ v ∷ drop k xs)) (in_moment_order (take k xs ++ v ∷ drop k xs))
    (all_with (λ u. not (is_before u t)) k v xs (and_left _ (in_moment_order xs) o) (not_both t v (and_left (is_before t v) _ b)))
    (order_with k v xs (and_right _ (in_moment_order xs) o) (and_right (is_before t v) _ b) s)

-- one less
all_without : (p : Timer → Bool) (k : ℕ) (xs : List Timer) → list_all p xs ≡ true → list_all p (take k xs ++ drop (suc k) xs) ≡ true
all_without p k [] h = none k
  where
    none : (k : ℕ) → list_all p (take k [] ++ drop (suc k) []) ≡ true
    none zero = refl
    none (suc k) = refl
all_without p zero (t ∷ xs) h = and_right (p t) _ h
all_without p (suc k) (t ∷ xs) h = and_both (p t) _ (and_left (p t) _ h) (all_without p k xs (and_right (p t) _ h))

pub order_without : (k : ℕ) (xs : List Timer) → in_moment_order xs ≡ true → in_moment_order (take k xs ++ drop (suc k) xs) ≡ true
order_without zero [] o = refl
order_without (suc k) [] o = refl
order_without zero (t ∷ xs) o = and_right _ (in_moment_order xs) o
order_without (suc k) (t ∷ xs) o =
    and_both (list_all (λ u. not (is_before u t)) (take k xs ++ drop (suc k) xs)) (in_moment_order (take k xs ++ drop (suc k) xs))
    (all_without (λ u. not (is_before u t)) k xs (and_left _ (in_moment_order xs) o))
    (order_without k xs (and_right _ (in_moment_order xs) o))

-- a timer that is there stands where the search stops
pub this_one : (v : Timer) → is_this v v ≡ 1
this_one v = same v.at v.sid
  where
    same : (a s : ℕ) → is_this (record { sid = s; at = a }) (record { sid = s; at = a }) ≡ 1
    same a s = grind (arith, nat_tests)

before_other : (t v : Timer) → is_before t v ≡ true → is_this v t ≡ 0
before_other t v h = other t.at t.sid v.at v.sid h
  where
    other : (ta ts va vs : ℕ) → cond (ta == va) (nat_lt ts vs) (nat_lt ta va) ≡ true
        → is_this (record { sid = vs; at = va }) (record { sid = ts; at = ta }) ≡ 0
    other ta ts va vs h = grind (arith, nat_tests)

this_or_later : (t v : Timer) → is_before t v ≡ false → (t ≡ v) ⊎ (is_before v t ≡ true)
this_or_later t v h = by t.at t.sid v.at v.sid h
  where
    by : (ta ts va vs : ℕ) → cond (ta == va) (nat_lt ts vs) (nat_lt ta va) ≡ false
        → (◌≡◌ {A = Timer} (record { sid = ts; at = ta }) (record { sid = vs; at = va })) ⊎ (cond (va == ta) (nat_lt vs ts) (nat_lt va ta) ≡ true)
    by ta ts va vs h = grind (arith, nat_tests)

none_of_this : (v t : Timer) (xs : List Timer) → is_before v t ≡ true → list_all (λ u. not (is_before u t)) xs ≡ true → sum_by (is_this v) xs ≡ 0
none_of_this v t [] h all = refl
none_of_this v t (u ∷ xs) h all =
    let rest = none_of_this v t xs h (and_right (not (is_before u t)) _ all) in
    let one = other u.at u.sid t.at t.sid v.at v.sid h (and_left (not (is_before u t)) _ all) in
    let whole = sum_by-cons (is_this v) u xs in
    omega (arith, rest, one, whole)
  where
    other : (ua us ta ts va vs : ℕ) → cond (va == ta) (nat_lt vs ts) (nat_lt va ta) ≡ true
        → not (cond (ua == ta) (nat_lt us ts) (nat_lt ua ta)) ≡ true → is_this (record { sid = vs; at = va }) (record { sid = us; at = ua }) ≡ 0
    other ua us ta ts va vs h k = grind (arith, nat_tests)

pub found_at : (v : Timer) (k : ℕ) (xs : List Timer) → in_moment_order xs ≡ true → list_all (λ t. is_before t v) (take k xs) ≡ true
    → IfSome (slice_get xs k) (λ t. is_before t v ≡ false) → 0 < sum_by (is_this v) xs → (k < length xs) × ((d : Timer) → get_or xs k d ≡ v)
found_at v k [] o b s there = absurd (omega (arith, there))
found_at v zero (t ∷ xs) o b s there = by (this_or_later t v s)
  where
    by : (t ≡ v) ⊎ (is_before v t ≡ true) → (0 < length (t ∷ xs)) × ((d : Timer) → get_or (t ∷ xs) 0 d ≡ v)
    by (inl e) = (omega arith, λ d. e)
    by (inr l) =
        let one = ap (λ (n : ℕ). n) (sum_by-cons (is_this v) t xs) in
        let rest = none_of_this v t xs l (and_left _ (in_moment_order xs) o) in
        let here = later_other t.at t.sid v.at v.sid l in
        absurd (omega (arith, one, rest, here, there))
      where
        later_other : (ta ts va vs : ℕ) → cond (va == ta) (nat_lt vs ts) (nat_lt va ta) ≡ true
            → is_this (record { sid = vs; at = va }) (record { sid = ts; at = ta }) ≡ 0
        later_other ta ts va vs h = grind (arith, nat_tests)
found_at v (suc k) (t ∷ xs) o b s there =
    let one = sum_by-cons (is_this v) t xs in
    let here = before_other t v (and_left (is_before t v) _ b) in
    let rest = found_at v k xs (and_right _ (in_moment_order xs) o) (and_right (is_before t v) _ b) s (omega (arith, one, here, there)) in
    (omega (arith, rest.0), rest.1)

-- where the first timer is not due, none is
late : (now : ℕ) (t : Timer) (xs : List Timer) → nat_le t.at now ≡ false → list_all (λ u. not (is_before u t)) xs ≡ true → due_by now xs ≡ []
late now t [] l all = refl
late now t (u ∷ xs) l all =
    ap (λ b. map (λ (w : Timer). w.sid) (cond b (u ∷ filter (λ w. nat_le w.at now) xs) (filter (λ w. nat_le w.at now) xs)))
    (later u.at u.sid t.at t.sid l (and_left (not (is_before u t)) _ all))
    ∙ late now t xs l (and_right (not (is_before u t)) _ all)
  where
    later : (ua us ta ts : ℕ) → nat_le ta now ≡ false → not (cond (ua == ta) (nat_lt us ts) (nat_lt ua ta)) ≡ true → nat_le ua now ≡ false
    later ua us ta ts h k = grind (arith, nat_tests)

pub none_due_yet : (now : ℕ) (t : Timer) (xs : List Timer) → slice_get xs 0 ≡ Some t → nat_le t.at now ≡ false → in_moment_order xs ≡ true
    → due_by now xs ≡ []
none_due_yet now t [] first l o = refl
none_due_yet now t (u ∷ xs) first l o =
    let late_too : nat_le u.at now ≡ false = ap (λ (w : Timer). nat_le w.at now) (same u first) ∙ l in
    ap (λ b. map (λ (w : Timer). w.sid) (cond b (u ∷ filter (λ w. nat_le w.at now) xs) (filter (λ w. nat_le w.at now) xs))) late_too
    ∙ late now u xs late_too (and_left _ (in_moment_order xs) o)
  where
    same : (u : Timer) → Some u ≡ Some t → u ≡ t
    same u e = search rules

-- lists with the same timers have the same due ones, if any
count_due : ℕ → Timer → ℕ
count_due now t = cond (nat_le t.at now) 1 0

none_counted : (now : ℕ) (xs : List Timer) → due_by now xs ≡ [] → sum_by (count_due now) xs ≡ 0
unfolding count_due
none_counted now [] h = refl
none_counted now (t ∷ xs) h = by (nat_le t.at now) refl (none_counted now xs) h
  where
    by : (b : Bool) → nat_le t.at now ≡ b → (due_by now xs ≡ [] → sum_by (count_due now) xs ≡ 0)
        → map (λ u. u.sid) (cond b (t ∷ filter (λ u. nat_le u.at now) xs) (filter (λ u. nat_le u.at now) xs)) ≡ []
        → sum_by (count_due now) (t ∷ xs) ≡ 0
    by true e before none = search rules
    by false e before none =
        let one = sum_by-cons (count_due now) t xs in
        let here : count_due now t ≡ 0 = ap (λ c. cond c 1 0) e in
        let rest = before none in omega (arith, one, here, rest)

none_left : (now : ℕ) (xs : List Timer) → sum_by (count_due now) xs ≡ 0 → due_by now xs ≡ []
unfolding count_due
none_left now [] h = refl
none_left now (t ∷ xs) h = by (nat_le t.at now) refl (none_left now xs)
  where
    by : (b : Bool) → nat_le t.at now ≡ b → (sum_by (count_due now) xs ≡ 0 → due_by now xs ≡ [])
        → map (λ u. u.sid) (cond b (t ∷ filter (λ u. nat_le u.at now) xs) (filter (λ u. nat_le u.at now) xs)) ≡ []
    by true e before =
        let one = sum_by-cons (count_due now) t xs in
        let here : count_due now t ≡ 1 = ap (λ c. cond c 1 0) e in absurd (omega (arith, one, here, h))
    by false e before =
        let one = sum_by-cons (count_due now) t xs in
        let here : count_due now t ≡ 0 = ap (λ c. cond c 1 0) e in before (omega (arith, one, here, h))

pub none_in_both : (now : ℕ) (xs ys : List Timer) → ((counted : Timer → ℕ) → sum_by counted xs ≡ sum_by counted ys)
    → due_by now xs ≡ [] → due_by now ys ≡ []
none_in_both now xs ys same h = none_left now ys (sym (same (count_due now)) ∙ none_counted now xs h)

-- where a search stops, and where it starts
pub in_the_middle : (low high : ℕ) → low < high → low + (high - low) / 2 < high
in_the_middle low high h = omega arith

pub stop_at : (P : Timer → Type 0) (k : ℕ) (xs : List Timer) (d : Timer) → k < length xs → P (get_or xs k d) → IfSome (slice_get xs k) P
stop_at P k [] d l h = absurd (omega (arith, l))
stop_at P zero (t ∷ xs) d l h = h
stop_at P (suc k) (t ∷ xs) d l h = stop_at P k xs d (omega (arith, l)) h

pub no_stop : (P : Timer → Type 0) (xs : List Timer) → IfSome (slice_get xs (length xs)) P
no_stop P [] = tt
no_stop P (t ∷ xs) = no_stop P xs

-- the same timers once one is set, added or cleared in both lists
pub is_there : (v : Timer) (k : ℕ) (timers queue : List Timer) → HaveSameTimers queue timers → k < length timers → v ≡ get_or timers k v
    → 0 < sum_by (is_this v) queue
is_there v k timers queue same l is =
    let whole = sum_by-remove (is_this v) timers k v l in
    let here : is_this v (get_or timers k v) ≡ 1 = ap (is_this v) (sym is) ∙ this_one v in
    let as_many = same (is_this v) in
    omega (arith, whole, here, as_many)

pub same_set : (timers queue one two : List Timer) (k : ℕ) (v old : Timer) → HaveSameTimers queue timers → k < length timers
    → old ≡ get_or timers k old
    → ((counted : Timer → ℕ) → sum_by counted one + counted old ≡ sum_by counted queue)
    → ((counted : Timer → ℕ) → sum_by counted two ≡ sum_by counted one + counted v) → HaveSameTimers two (slice_set timers k v)
same_set timers queue one two k v old same l is less more = λ counted.
    let whole = sum_by-set counted timers k v old l in
    let here : counted (get_or timers k old) ≡ counted old = ap counted (sym is) in
    let a = same counted in let b = less counted in let c = more counted in omega (arith, whole, here, a, b, c)

pub same_with : (timers queue more : List Timer) (k : ℕ) (v : Timer) → HaveSameTimers queue timers
    → ((counted : Timer → ℕ) → sum_by counted more ≡ sum_by counted queue + counted v) → HaveSameTimers more (insert timers k v)
same_with timers queue more k v same joins = λ counted.
    let whole = sum_by-insert counted timers k v in let a = same counted in let b = joins counted in omega (arith, whole, a, b)

pub same_without : (timers queue less : List Timer) (k : ℕ) (old : Timer) → HaveSameTimers queue timers → k < length timers
    → old ≡ get_or timers k old
    → ((counted : Timer → ℕ) → sum_by counted less + counted old ≡ sum_by counted queue) → HaveSameTimers less (remove timers k)
same_without timers queue less k old same l is leaves = λ counted.
    let whole = sum_by-remove counted timers k old l in
    let here : counted (get_or timers k old) ≡ counted old = ap counted (sym is) in
    let a = same counted in let b = leaves counted in omega (arith, whole, here, a, b)
