-- Timers that agree with the services, and one change more.
use Rattle.std.proofs.Common.{◌≡◌, refl, sym, ap, ◌∙◌, ℕ, zero, suc, List, [], ◌∷◌, ◌++◌, Bool, true, false, ◌==◌, cond, rules, filter}
use Rattle.std.specs.Prelude.{Option, Some, None, nat_lt, slice_get, slice_set, unwrap_or}
use Rattle.std.specs.Option.{option_or}
use Rattle.std.proofs.lemmas.List.Sums.{fold-append}
use Rattle.deadlines.specs.declared.timer.Timer.{Timer}
use Rattle.deadlines.specs.declared.timer.TimerChange.{TimerChange}
use Rattle.deadlines.specs.declared.timer.TimerChange.TheVariants.{Set, Clear}
use Rattle.deadlines.specs.Timers.{rises, below, above, with_timer, without_timer, with_timer_change, with_timer_changes, is_rising}
use Rattle.deadlines.proofs.Rising.{rises_set_to, rises_cleared}
use Rattle.supervise_core.specs.declared.chart_state.ChartState.{ChartState}
use Rattle.svscan_core.specs.Table.{serials_of}
use Rattle.svscan_core.specs.Timers.{in_reach, timer_in, set_in, TimersAgree, change_to, timer_change_of}
use Rattle.svscan_core.proofs.OnePlace.{above_place}
use Rattle.svscan_core.proofs.Serials.{itself, later_other, earlier_other}
use Rattle.svscan_core.proofs.Truth.{both_left, both_right}

-- numbers
pub one_number : (m n : ℕ) → (m == n) ≡ true → m ≡ n
one_number m n h = search rules

neither_side : (m n : ℕ) → nat_lt m n ≡ false → nat_lt n m ≡ false → (n == m) ≡ true
neither_side m n h k = search rules

-- a timer whose serial passes a filter stays, and one whose serial does not is gone
kept_in : (q : ℕ) (f : Timer → Bool) → ((t : Timer) → (t.sid == q) ≡ true → f t ≡ true) → (ts : List Timer) → set_in q (filter f ts) ≡ set_in q ts
kept_in q f w [] = refl
kept_in q f w (t ∷ ts) = by (f t) refl (kept_in q f w ts)
  where
    other : f t ≡ false → (b : Bool) → (t.sid == q) ≡ b → (t.sid == q) ≡ false
    other e true h = let passes = w t h in cc
    other e false h = h

    by : (a : Bool) → f t ≡ a → set_in q (filter f ts) ≡ set_in q ts → set_in q (cond a (t ∷ filter f ts) (filter f ts)) ≡ set_in q (t ∷ ts)
    by true e rest = ap (λ o. cond (t.sid == q) (Some t.at) o) rest
    by false e rest = rest ∙ sym (ap (λ b. cond b (Some t.at) (set_in q ts)) (other e (t.sid == q) refl))

dropped_in : (q : ℕ) (f : Timer → Bool) → ((t : Timer) → (t.sid == q) ≡ true → f t ≡ false) → (ts : List Timer) → set_in q (filter f ts) ≡ None
dropped_in q f w [] = refl
dropped_in q f w (t ∷ ts) = by (f t) refl (dropped_in q f w ts)
  where
    other : f t ≡ true → (b : Bool) → (t.sid == q) ≡ b → (t.sid == q) ≡ false
    other e true h = let fails = w t h in cc
    other e false h = h

    by : (a : Bool) → f t ≡ a → set_in q (filter f ts) ≡ None → set_in q (cond a (t ∷ filter f ts) (filter f ts)) ≡ None
    by true e rest = ap (λ b. cond b (Some t.at) (set_in q (filter f ts))) (other e (t.sid == q) refl) ∙ rest
    by false e rest = rest

in_either : (q : ℕ) (xs ys : List Timer) → set_in q (xs ++ ys) ≡ option_or (set_in q xs) (set_in q ys)
in_either q [] ys = refl
in_either q (t ∷ xs) ys = by (t.sid == q) (in_either q xs ys)
  where
    by : (b : Bool) → set_in q (xs ++ ys) ≡ option_or (set_in q xs) (set_in q ys)
        → cond b (Some t.at) (set_in q (xs ++ ys)) ≡ option_or (cond b (Some t.at) (set_in q xs)) (set_in q ys)
    by true rest = refl
    by false rest = rest

or_none : (o : Option ℕ) → option_or o None ≡ o
or_none None = refl
or_none (Some n) = refl

lower : (q s n : ℕ) → nat_lt q s ≡ true → (n == q) ≡ true → nat_lt n s ≡ true
lower q s n h e = search rules

not_lower : (q s n : ℕ) → nat_lt q s ≡ false → (n == q) ≡ true → nat_lt n s ≡ false
not_lower q s n h e = search rules

higher : (q s n : ℕ) → nat_lt s q ≡ true → (n == q) ≡ true → nat_lt s n ≡ true
higher q s n h e = search rules

not_higher : (q s n : ℕ) → nat_lt s q ≡ false → (n == q) ≡ true → nat_lt s n ≡ false
not_higher q s n h e = search rules

lower_not_higher : (q s : ℕ) → nat_lt q s ≡ true → nat_lt s q ≡ false
lower_not_higher q s h = search rules

-- what stands below and above a serial, with something for the serial itself between them
around : (s q : ℕ) (own : Option ℕ) (ts : List Timer)
    → option_or (set_in q (below s ts)) (cond (s == q) own (set_in q (above s ts))) ≡ cond (s == q) own (set_in q ts)
around s q own ts = by (nat_lt q s) (nat_lt s q) refl refl
  where
    by : (a b : Bool) → nat_lt q s ≡ a → nat_lt s q ≡ b
        → option_or (set_in q (below s ts)) (cond (s == q) own (set_in q (above s ts))) ≡ cond (s == q) own (set_in q ts)
    by true b e f =
        (λ i. option_or (kept_in q (λ t. nat_lt t.sid s) (λ t h. lower q s t.sid e h) ts i)
        (cond (later_other q s e i) own (dropped_in q (λ t. nat_lt s t.sid) (λ t h. not_higher q s t.sid (lower_not_higher q s e) h) ts i)))
        ∙ (or_none (set_in q ts) ∙ sym (ap (λ b. cond b own (set_in q ts)) (later_other q s e)))
    by false true e f =
        (λ i. option_or (dropped_in q (λ t. nat_lt t.sid s) (λ t h. not_lower q s t.sid e h) ts i)
        (cond (s == q) own (kept_in q (λ t. nat_lt s t.sid) (λ t h. higher q s t.sid f h) ts i)))
    by false false e f =
        (λ i. option_or (dropped_in q (λ t. nat_lt t.sid s) (λ t h. not_lower q s t.sid e h) ts i)
        (cond (neither_side q s e f i) own (set_in q (above s ts))))
        ∙ sym (ap (λ b. cond b own (set_in q ts)) (neither_side q s e f))

-- what a change makes of the timer of each serial
put_in : (s q at : ℕ) (ts : List Timer) → set_in q (with_timer s at ts) ≡ cond (s == q) (Some at) (set_in q ts)
put_in s q at ts = in_either q (below s ts) (record { sid = s; at = at } ∷ above s ts) ∙ around s q (Some at) ts

pub cleared_in : (s q : ℕ) (ts : List Timer) → set_in q (without_timer s ts) ≡ cond (s == q) None (set_in q ts)
cleared_in s q ts =
    in_either q (below s ts) (above s ts)
    ∙ (ap (λ o. option_or (set_in q (below s ts)) o) (skipped (s == q) refl)
    ∙ around s q None ts)
  where
    level : (s == q) ≡ true → nat_lt s q ≡ false
    level h = search rules

    skipped : (b : Bool) → (s == q) ≡ b → set_in q (above s ts) ≡ cond b None (set_in q (above s ts))
    skipped true h = dropped_in q (λ t. nat_lt s t.sid) (λ t e. not_higher q s t.sid (level h) e) ts
    skipped false h = refl

pub changed_in : (s q : ℕ) (own : Option ℕ) (ts : List Timer) → set_in q (with_timer_change ts (change_to s own)) ≡ cond (s == q) own (set_in q ts)
changed_in s q None ts = cleared_in s q ts
changed_in s q (Some at) ts = put_in s q at ts

pub rises_changed : (changes : List TimerChange) (ts : List Timer) → rises ts ≡ true → rises (with_timer_changes changes ts) ≡ true
rises_changed [] ts r = r
rises_changed (Set sid at ∷ changes) ts r = rises_changed changes (with_timer sid at ts) (rises_set_to sid at ts r)
rises_changed (Clear sid ∷ changes) ts r = rises_changed changes (without_timer sid ts) (rises_cleared sid ts r)

-- the timer of each serial, where the service at a place gets another state
timer_set : (q : ℕ) (cs : List ChartState) (p : ℕ) (d : ChartState) → is_rising (serials_of cs) ≡ true → slice_get (serials_of cs) p ≡ Some d.sid
    → timer_in q (slice_set cs p d) ≡ cond (d.sid == q) (in_reach d.timer) (timer_in q cs)
timer_set q [] p d r e = search rules
timer_set q (x ∷ cs) zero d r e = by (d.sid == q) refl
  where
    same : x.sid ≡ d.sid
    same = ap (λ o. unwrap_or o x.sid) e

    by : (b : Bool) → (d.sid == q) ≡ b → cond b (in_reach d.timer) (timer_in q cs)
        ≡ cond b (in_reach d.timer) (cond (x.sid == q) (in_reach x.timer) (timer_in q cs))
    by true f = refl
    by false f = sym (ap (λ b. cond b (in_reach x.timer) (timer_in q cs)) (ap (λ n. n == q) same ∙ f))
timer_set q (x ∷ cs) (suc p) d r e =
    ap (λ o. cond (x.sid == q) (in_reach x.timer) o) (timer_set q cs p d (both_right _ (is_rising (serials_of cs)) r) e)
    ∙ by (x.sid == q) (d.sid == q) refl refl
  where
    apart : (x.sid == d.sid) ≡ false
    apart = earlier_other x.sid d.sid (above_place x.sid (serials_of cs) p d.sid (both_left _ (is_rising (serials_of cs)) r) e)

    by : (a b : Bool) → (x.sid == q) ≡ a → (d.sid == q) ≡ b
        → cond a (in_reach x.timer) (cond b (in_reach d.timer) (timer_in q cs))
        ≡ cond b (in_reach d.timer) (cond a (in_reach x.timer) (timer_in q cs))
    by true true f g = let same : (x.sid == d.sid) ≡ true =
        ap (λ n. x.sid == n) (one_number d.sid q g ∙ sym (one_number x.sid q f)) ∙ itself x.sid in let other = apart in cc
    by true false f g = refl
    by false true f g = refl
    by false false f g = refl

-- deadlines that agree with the services agree with them after one change
pub agrees_one : (ts : List Timer) (cs : List ChartState) (p : ℕ) (d : ChartState) → TimersAgree ts cs → is_rising (serials_of cs) ≡ true
    → slice_get (serials_of cs) p ≡ Some d.sid
    → TimersAgree (with_timer_change ts (timer_change_of d)) (slice_set cs p d)
agrees_one ts cs p d a r e = record {
  order = rises_changed (timer_change_of d ∷ []) ts a.order;
  moments = λ q.
      changed_in d.sid q (in_reach d.timer) ts
      ∙ (ap (λ o. cond (d.sid == q) (in_reach d.timer) o) (a.moments q) ∙ sym (timer_set q cs p d r e));
}

-- one change more
pub changed_more : (changes : List TimerChange) (x : TimerChange) (ts : List Timer)
    → with_timer_changes (changes ++ x ∷ []) ts ≡ with_timer_change (with_timer_changes changes ts) x
changed_more changes x ts = fold-append with_timer_change ts changes (x ∷ [])
