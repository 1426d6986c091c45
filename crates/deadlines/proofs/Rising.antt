-- Timers in rising serial, cut at a serial.
use Rattle.std.proofs.Common.{◌≡◌, refl, sym, ap, ◌∙◌, ℕ, suc, List, [], ◌∷◌, ◌++◌, Bool, true, false, not, ◌&&◌, ◌==◌, cond, arith, rules, take}
use Rattle.std.proofs.Common.{drop, filter, map, subst}
use Rattle.std.proofs.lemmas.List.{set_split, take-append-drop}
use Rattle.std.specs.Prelude.{nat_lt, nat_le, slice_get, slice_set, IfSome, length, zero, ◌<◌, ◌≤◌, get_or}
use Rattle.std.proofs.lemmas.List.Folds.{list_all-append, list_all-map}
use Rattle.std.specs.List.{list_all}
use Rattle.deadlines.specs.declared.timer.Timer.{Timer}
use Rattle.deadlines.specs.Timers.{rises, below, above, is_timer_of, with_timer, without_timer, is_rising, due_by}

pub and_left : (a b : Bool) → (a && b) ≡ true → a ≡ true
and_left true b h = refl
and_left false b h = h

pub and_right : (a b : Bool) → (a && b) ≡ true → b ≡ true
and_right true b h = h
and_right false b h = search rules

pub and_both : (a b : Bool) → a ≡ true → b ≡ true → (a && b) ≡ true
and_both true b h k = k
and_both false b h k = h

-- what passes a test passes a weaker one
pub weaker : (p q : Timer → Bool) → ((t : Timer) → p t ≡ true → q t ≡ true) → (xs : List Timer) → list_all p xs ≡ true → list_all q xs ≡ true
weaker p q w [] h = refl
weaker p q w (t ∷ xs) h = and_both (q t) _ (w t (and_left (p t) _ h)) (weaker p q w xs (and_right (p t) _ h))

-- the elements that pass, where all do and where none does
all_kept : (p : Timer → Bool) (xs : List Timer) → list_all p xs ≡ true → filter p xs ≡ xs
all_kept p [] h = refl
all_kept p (t ∷ xs) h =
    ap (λ b. cond b (t ∷ filter p xs) (filter p xs)) (and_left (p t) _ h) ∙ ap (λ ts. t ∷ ts) (all_kept p xs (and_right (p t) _ h))

not_true : (b : Bool) → not b ≡ true → b ≡ false
not_true true h = search rules
not_true false h = refl

none_kept : (p : Timer → Bool) (xs : List Timer) → list_all (λ t. not (p t)) xs ≡ true → filter p xs ≡ []
none_kept p [] h = refl
none_kept p (t ∷ xs) h =
    ap (λ b. cond b (t ∷ filter p xs) (filter p xs)) (not_true (p t) (and_left (not (p t)) _ h)) ∙ none_kept p xs (and_right (not (p t)) _ h)

-- below the first timer of a rising list stands none of the rest, and above it all of them
less_less : (m n k : ℕ) → nat_lt m n ≡ false → nat_lt m k ≡ true → not (nat_lt k n) ≡ true
less_less m n k h l = search rules

none_below : (sid : ℕ) (t : Timer) (xs : List Timer) → nat_lt t.sid sid ≡ false → list_all (λ u. nat_lt t.sid u.sid) xs ≡ true → below sid xs ≡ []
none_below sid t xs h later =
    none_kept (λ u. nat_lt u.sid sid) xs (weaker (λ u. nat_lt t.sid u.sid) (λ u. not (nat_lt u.sid sid))
    (λ u l. less_less t.sid sid u.sid h l) xs later)

more_above : (sid s u : ℕ) → (s == sid) ≡ true → nat_lt s u ≡ true → nat_lt sid u ≡ true
more_above sid s u same l = search rules

not_above : (sid s : ℕ) → (s == sid) ≡ true → nat_lt sid s ≡ false
not_above sid s same = search rules

-- where the walk stops, the timers before are those below
pub cut_below : (sid k : ℕ) (xs : List Timer) → rises xs ≡ true → list_all (λ t. nat_lt t.sid sid) (take k xs) ≡ true
    → IfSome (slice_get xs k) (λ t. nat_lt t.sid sid ≡ false) → take k xs ≡ below sid xs
cut_below sid zero [] r b s = refl
cut_below sid (suc k) [] r b s = refl
cut_below sid zero (t ∷ xs) r b s =
    sym (ap (λ p. cond p (t ∷ below sid xs) (below sid xs)) s ∙ none_below sid t xs s (and_left _ (rises xs) r))
cut_below sid (suc k) (t ∷ xs) r b s =
    ap (λ ts. t ∷ ts) (cut_below sid k xs (and_right _ (rises xs) r) (and_right (nat_lt t.sid sid) _ b) s)
    ∙ sym (ap (λ p. cond p (t ∷ below sid xs) (below sid xs)) (and_left (nat_lt t.sid sid) _ b))

less_not_above : (sid s : ℕ) → nat_lt s sid ≡ true → nat_lt sid s ≡ false
less_not_above sid s h = search rules

beyond : (sid s : ℕ) → nat_lt s sid ≡ false → (s == sid) ≡ false → nat_lt sid s ≡ true
beyond sid s h k = search rules

still_above : (sid s u : ℕ) → nat_lt sid s ≡ true → nat_lt s u ≡ true → nat_lt sid u ≡ true
still_above sid s u h k = search rules

-- and those after it, or from it on where it is another service's, are those above
pub cut_found : (sid k : ℕ) (xs : List Timer) → rises xs ≡ true → list_all (λ t. nat_lt t.sid sid) (take k xs) ≡ true
    → is_timer_of sid (slice_get xs k) ≡ true → drop (suc k) xs ≡ above sid xs
cut_found sid k [] r b f = refl
cut_found sid zero (t ∷ xs) r b f =
    sym (ap (λ p. cond p (t ∷ above sid xs) (above sid xs)) (not_above sid t.sid f)
    ∙ all_kept (λ u. nat_lt sid u.sid) xs (weaker (λ u. nat_lt t.sid u.sid) (λ u. nat_lt sid u.sid) (λ u l. more_above sid t.sid u.sid f l) xs
    (and_left _ (rises xs) r)))
cut_found sid (suc k) (t ∷ xs) r b f =
    cut_found sid k xs (and_right _ (rises xs) r) (and_right (nat_lt t.sid sid) _ b) f
    ∙ sym (ap (λ p. cond p (t ∷ above sid xs) (above sid xs)) (less_not_above sid t.sid (and_left (nat_lt t.sid sid) _ b)))

pub cut_new : (sid k : ℕ) (xs : List Timer) → rises xs ≡ true → list_all (λ t. nat_lt t.sid sid) (take k xs) ≡ true
    → IfSome (slice_get xs k) (λ t. nat_lt t.sid sid ≡ false) → is_timer_of sid (slice_get xs k) ≡ false → drop k xs ≡ above sid xs
cut_new sid zero [] r b s f = refl
cut_new sid (suc k) [] r b s f = refl
cut_new sid zero (t ∷ xs) r b s f =
    sym (ap (λ p. cond p (t ∷ above sid xs) (above sid xs)) (beyond sid t.sid s f)
    ∙ ap (λ ts. t ∷ ts) (all_kept (λ u. nat_lt sid u.sid) xs
    (weaker (λ u. nat_lt t.sid u.sid) (λ u. nat_lt sid u.sid) (λ u l. still_above sid t.sid u.sid (beyond sid t.sid s f) l) xs
    (and_left _ (rises xs) r))))
cut_new sid (suc k) (t ∷ xs) r b s f =
    cut_new sid k xs (and_right _ (rises xs) r) (and_right (nat_lt t.sid sid) _ b) s f
    ∙ sym (ap (λ p. cond p (t ∷ above sid xs) (above sid xs)) (less_not_above sid t.sid (and_left (nat_lt t.sid sid) _ b)))

pub found_within : (sid k : ℕ) (xs : List Timer) → is_timer_of sid (slice_get xs k) ≡ true → k < length xs
found_within sid k [] f = search rules
found_within sid zero (t ∷ xs) f = omega arith
found_within sid (suc k) (t ∷ xs) f = omega (arith, found_within sid k xs f)

-- what is left of a rising list rises
all_filtered : (p q : Timer → Bool) (xs : List Timer) → list_all p xs ≡ true → list_all p (filter q xs) ≡ true
all_filtered p q [] h = refl
all_filtered p q (t ∷ xs) h = by (q t) (all_filtered p q xs (and_right (p t) _ h))
  where
    by : (b : Bool) → list_all p (filter q xs) ≡ true → list_all p (cond b (t ∷ filter q xs) (filter q xs)) ≡ true
    by true rest = and_both (p t) _ (and_left (p t) _ h) rest
    by false rest = rest

pub rises_filtered : (q : Timer → Bool) (xs : List Timer) → rises xs ≡ true → rises (filter q xs) ≡ true
rises_filtered q [] r = refl
rises_filtered q (t ∷ xs) r = by (q t) (rises_filtered q xs (and_right _ (rises xs) r))
  where
    by : (b : Bool) → rises (filter q xs) ≡ true → rises (cond b (t ∷ filter q xs) (filter q xs)) ≡ true
    by true rest = and_both _ (rises (filter q xs)) (all_filtered (λ u. nat_lt t.sid u.sid) q xs (and_left _ (rises xs) r)) rest
    by false rest = rest

-- what passes a filter passes its test
passes : (q : Timer → Bool) (xs : List Timer) → list_all q (filter q xs) ≡ true
passes q [] = refl
passes q (t ∷ xs) = by (q t) refl (passes q xs)
  where
    by : (b : Bool) → q t ≡ b → list_all q (filter q xs) ≡ true → list_all q (cond b (t ∷ filter q xs) (filter q xs)) ≡ true
    by true e rest = and_both (q t) _ e rest
    by false e rest = rest

-- two rising lists, where all of the first is below all of the second
joined : (xs ys : List Timer) → rises xs ≡ true → rises ys ≡ true → list_all (λ t. list_all (λ u. nat_lt t.sid u.sid) ys) xs ≡ true
    → rises (xs ++ ys) ≡ true
joined [] ys r q h = q
joined (t ∷ xs) ys r q h =
    and_both _ (rises (xs ++ ys))
    (list_all-append (λ u. nat_lt t.sid u.sid) xs ys ∙ and_both _ _ (and_left _ (rises xs) r) (and_left _ _ h))
    (joined xs ys (and_right _ (rises xs) r) q (and_right _ _ h))

below_all_above : (sid : ℕ) (xs ys : List Timer) → list_all (λ t. nat_lt t.sid sid) xs ≡ true → list_all (λ u. nat_lt sid u.sid) ys ≡ true
    → list_all (λ t. list_all (λ u. nat_lt t.sid u.sid) ys) xs ≡ true
below_all_above sid xs ys b a =
    weaker (λ t. nat_lt t.sid sid) (λ t. list_all (λ u. nat_lt t.sid u.sid) ys)
    (λ t l. weaker (λ u. nat_lt sid u.sid) (λ u. nat_lt t.sid u.sid) (λ u m. still_above t.sid sid u.sid l m) ys a) xs b

-- a list stays rising where a timer is set and where it is cleared
pub rises_cleared : (sid : ℕ) (xs : List Timer) → rises xs ≡ true → rises (without_timer sid xs) ≡ true
rises_cleared sid xs r =
    joined (below sid xs) (above sid xs) (rises_filtered (λ t. nat_lt t.sid sid) xs r) (rises_filtered (λ t. nat_lt sid t.sid) xs r)
    (below_all_above sid (below sid xs) (above sid xs) (passes (λ t. nat_lt t.sid sid) xs) (passes (λ t. nat_lt sid t.sid) xs))

pub rises_set_to : (sid at : ℕ) (xs : List Timer) → rises xs ≡ true → rises (with_timer sid at xs) ≡ true
rises_set_to sid at xs r =
    joined (below sid xs) (record { sid = sid; at = at } ∷ above sid xs) (rises_filtered (λ t. nat_lt t.sid sid) xs r)
    (and_both _ (rises (above sid xs)) (passes (λ t. nat_lt sid t.sid) xs) (rises_filtered (λ t. nat_lt sid t.sid) xs r))
    (weaker (λ t. nat_lt t.sid sid) (λ t. list_all (λ u. nat_lt t.sid u.sid) (record { sid = sid; at = at } ∷ above sid xs))
    (λ t l. and_both (nat_lt t.sid sid) _ l (weaker (λ u. nat_lt sid u.sid) (λ u. nat_lt t.sid u.sid) (λ u m. still_above t.sid sid u.sid l m)
    (above sid xs) (passes (λ u. nat_lt sid u.sid) xs)))
    (below sid xs) (passes (λ t. nat_lt t.sid sid) xs))

-- the serials of a rising list rise
pub serials_rise : (xs : List Timer) → rises xs ≡ true → is_rising (map (λ t. t.sid) xs) ≡ true
serials_rise [] r = refl
serials_rise (t ∷ xs) r =
    and_both _ (is_rising (map (λ u. u.sid) xs))
    (list_all-map (λ m. nat_lt t.sid m) (λ (u : Timer). u.sid) xs ∙ and_left _ (rises xs) r)
    (serials_rise xs (and_right _ (rises xs) r))

-- where no timer is due, none at any place is
pub none_due : (now i : ℕ) (xs : List Timer) (d : Timer) → i < length xs → due_by now xs ≡ [] → nat_le (get_or xs i d).at now ≡ false
none_due now i [] d l e = absurd (omega (arith, l))
none_due now zero (t ∷ xs) d l e = by (nat_le t.at now) refl e
  where
    by : (b : Bool) → nat_le t.at now ≡ b → map (λ u. u.sid) (cond b (t ∷ filter (λ u. nat_le u.at now) xs) (filter (λ u. nat_le u.at now) xs)) ≡ []
        → nat_le t.at now ≡ false
    by true n h = search rules
    by false n h = n
none_due now (suc i) (t ∷ xs) d l e = none_due now i xs d (omega (arith, l)) (by (nat_le t.at now) e)
  where
    by : (b : Bool) → map (λ u. u.sid) (cond b (t ∷ filter (λ u. nat_le u.at now) xs) (filter (λ u. nat_le u.at now) xs)) ≡ [] → due_by now xs ≡ []
    by true h = search rules
    by false h = h

-- what a look at the timers, and a change at the place that was found, makes of them
over : (sid k : ℕ) (xs ys : List Timer) → ys ≡ xs → list_all (λ t. nat_lt t.sid sid) (take k ys) ≡ true
    → list_all (λ t. nat_lt t.sid sid) (take k xs) ≡ true
over sid k xs ys e b = subst (λ ts. list_all (λ t. nat_lt t.sid sid) (take k ts) ≡ true) e b

stops : (sid k : ℕ) (xs ys : List Timer) → ys ≡ xs → IfSome (slice_get ys k) (λ t. nat_lt t.sid sid ≡ false)
    → IfSome (slice_get xs k) (λ t. nat_lt t.sid sid ≡ false)
stops sid k xs ys e s = subst (λ ts. IfSome (slice_get ts k) (λ t. nat_lt t.sid sid ≡ false)) e s

seen : (sid k : ℕ) (b : Bool) (xs zs : List Timer) → zs ≡ xs → is_timer_of sid (slice_get zs k) ≡ b → is_timer_of sid (slice_get xs k) ≡ b
seen sid k b xs zs e h = subst (λ ts. is_timer_of sid (slice_get ts k) ≡ b) e h

pub put_in_place : (sid at k : ℕ) (xs ys zs : List Timer) → ys ≡ xs → zs ≡ xs → rises xs ≡ true
    → list_all (λ t. nat_lt t.sid sid) (take k ys) ≡ true → IfSome (slice_get ys k) (λ t. nat_lt t.sid sid ≡ false)
    → is_timer_of sid (slice_get zs k) ≡ true → slice_set xs k (record { sid = sid; at = at }) ≡ with_timer sid at xs
put_in_place sid at k xs ys zs e f r b s h =
    set_split xs k (record { sid = sid; at = at }) (found_within sid k xs (seen sid k true xs zs f h))
    ∙ (ap (λ ts. ts ++ record { sid = sid; at = at } ∷ drop (suc k) xs) (cut_below sid k xs r (over sid k xs ys e b) (stops sid k xs ys e s))
    ∙ ap (λ ts. below sid xs ++ record { sid = sid; at = at } ∷ ts) (cut_found sid k xs r (over sid k xs ys e b) (seen sid k true xs zs f h)))

pub put_between : (sid at k : ℕ) (xs ys zs : List Timer) → ys ≡ xs → zs ≡ xs → rises xs ≡ true
    → list_all (λ t. nat_lt t.sid sid) (take k ys) ≡ true → IfSome (slice_get ys k) (λ t. nat_lt t.sid sid ≡ false)
    → is_timer_of sid (slice_get zs k) ≡ false → take k xs ++ record { sid = sid; at = at } ∷ drop k xs ≡ with_timer sid at xs
put_between sid at k xs ys zs e f r b s h =
    ap (λ ts. ts ++ record { sid = sid; at = at } ∷ drop k xs) (cut_below sid k xs r (over sid k xs ys e b) (stops sid k xs ys e s))
    ∙ ap (λ ts. below sid xs ++ record { sid = sid; at = at } ∷ ts)
    (cut_new sid k xs r (over sid k xs ys e b) (stops sid k xs ys e s) (seen sid k false xs zs f h))

pub clear_there : (sid k : ℕ) (xs ys zs : List Timer) → ys ≡ xs → zs ≡ xs → rises xs ≡ true
    → list_all (λ t. nat_lt t.sid sid) (take k ys) ≡ true → IfSome (slice_get ys k) (λ t. nat_lt t.sid sid ≡ false)
    → is_timer_of sid (slice_get zs k) ≡ true → take k xs ++ drop (suc k) xs ≡ without_timer sid xs
clear_there sid k xs ys zs e f r b s h =
    ap (λ ts. ts ++ drop (suc k) xs) (cut_below sid k xs r (over sid k xs ys e b) (stops sid k xs ys e s))
    ∙ ap (λ ts. below sid xs ++ ts) (cut_found sid k xs r (over sid k xs ys e b) (seen sid k true xs zs f h))

pub clear_nothing : (sid k : ℕ) (xs ys zs : List Timer) → ys ≡ xs → zs ≡ xs → rises xs ≡ true
    → list_all (λ t. nat_lt t.sid sid) (take k ys) ≡ true → IfSome (slice_get ys k) (λ t. nat_lt t.sid sid ≡ false)
    → is_timer_of sid (slice_get zs k) ≡ false → xs ≡ without_timer sid xs
clear_nothing sid k xs ys zs e f r b s h =
    sym (take-append-drop k xs)
    ∙ (ap (λ ts. ts ++ drop k xs) (cut_below sid k xs r (over sid k xs ys e b) (stops sid k xs ys e s))
    ∙ ap (λ ts. below sid xs ++ ts) (cut_new sid k xs r (over sid k xs ys e b) (stops sid k xs ys e s) (seen sid k false xs zs f h)))

at_most_not : (m n : ℕ) → nat_le m n ≡ false → m ≤ n → ⊥
at_most_not m n h l = search rules

pub due_somewhere : (now i : ℕ) (xs ys : List Timer) (t : Timer) → ys ≡ xs → i < length ys → t ≡ get_or ys i t → t.at ≤ now → due_by now xs ≡ [] → ⊥
due_somewhere now i xs ys t e l is le none =
    at_most_not t.at now
    (ap (λ (u : Timer). nat_le u.at now) is
    ∙ (ap (λ ts. nat_le (get_or ts i t).at now) e ∙ none_due now i xs t (subst (λ ts. i < length ts) e l) none)) le
