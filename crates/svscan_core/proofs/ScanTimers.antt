-- What departures and arrivals do to the timers.
use Rattle.std.proofs.Common.{◌≡◌, refl, sym, ap, ◌∙◌, ℕ, List, [], ◌∷◌, ◌++◌, Bool, true, false, ◌||◌, ◌==◌, cond, not, filter, map, subst}
use Rattle.std.proofs.Common.{append-nil, append_assoc}
use Rattle.std.specs.Prelude.{None, nat_lt}
use Rattle.std.specs.List.{list_all, list_any}
use Rattle.std.proofs.lemmas.List.Sums.{fold-append}
use Rattle.deadlines.specs.declared.timer.Timer.{Timer}
use Rattle.deadlines.specs.declared.timer.TimerChange.{TimerChange}
use Rattle.deadlines.specs.declared.timer.TimerChange.TheVariants.{Clear}
use Rattle.deadlines.specs.Timers.{rises, without_timer, with_timer_change, with_timer_changes, is_rising}
use Rattle.supervise_core.specs.declared.chart_state.ChartState.{ChartState}
use Rattle.svscan_core.specs.Scan.{stays, leaves}
use Rattle.svscan_core.specs.Table.{serials_of}
use Rattle.svscan_core.specs.Timers.{in_reach, timer_in, set_in, TimersAgree, timer_change_of}
use Rattle.svscan_core.proofs.Serials.{later_other, earlier_other, itself}
use Rattle.svscan_core.proofs.Timers.{one_number, changed_in, cleared_in, rises_changed}
use Rattle.svscan_core.proofs.Truth.{both_left, both_right, both_of, neither_left, neither_right, neither_of}

-- the serial is not among those above it
none_above : (s : ℕ) (ns : List ℕ) → list_all (λ m. nat_lt s m) ns ≡ true → list_any (λ n. n == s) ns ≡ false
none_above s [] h = refl
none_above s (n ∷ ns) h = neither_of (n == s) _ (later_other s n (both_left (nat_lt s n) _ h)) (none_above s ns (both_right (nat_lt s n) _ h))

-- fewer services have fewer serials
fewer_above : (p : ChartState → Bool) (s : ℕ) (cs : List ChartState) → list_all (λ m. nat_lt s m) (serials_of cs) ≡ true
    → list_all (λ m. nat_lt s m) (serials_of (filter p cs)) ≡ true
fewer_above p s [] h = refl
fewer_above p s (c ∷ cs) h = by (p c) (fewer_above p s cs (both_right (nat_lt s c.sid) _ h))
  where
    by : (b : Bool) → list_all (λ m. nat_lt s m) (serials_of (filter p cs)) ≡ true
        → list_all (λ m. nat_lt s m) (serials_of (cond b (c ∷ filter p cs) (filter p cs))) ≡ true
    by true rest = both_of (nat_lt s c.sid) _ (both_left (nat_lt s c.sid) _ h) rest
    by false rest = rest

-- a serial that none has, has no timer
no_timer : (q : ℕ) (cs : List ChartState) → list_any (λ n. n == q) (serials_of cs) ≡ false → timer_in q cs ≡ None
no_timer q [] h = refl
no_timer q (c ∷ cs) h = ap (λ b. cond b (in_reach c.timer) (timer_in q cs)) (neither_left (c.sid == q) _ h)
    ∙ no_timer q cs (neither_right (c.sid == q) _ h)

above_of : (q s : ℕ) (ns : List ℕ) → (s == q) ≡ true → list_all (λ m. nat_lt s m) ns ≡ true → list_any (λ n. n == q) ns ≡ false
above_of q s ns e h = ap (λ n. list_any (λ m. m == n) ns) (sym (one_number s q e)) ∙ none_above s ns h

-- the timers of those that stay
timer_filtered : (q : ℕ) (cs : List ChartState) → is_rising (serials_of cs) ≡ true
    → timer_in q (filter stays cs) ≡ cond (list_any (λ n. n == q) (serials_of (filter leaves cs))) None (timer_in q cs)
timer_filtered q [] r = refl
timer_filtered q (c ∷ cs) r = by (stays c) (c.sid == q) refl (timer_filtered q cs (both_right _ (is_rising (serials_of cs)) r))
  where
    above : list_all (λ m. nat_lt c.sid m) (serials_of cs) ≡ true
    above = both_left _ (is_rising (serials_of cs)) r

    by : (a b : Bool) → (c.sid == q) ≡ b → timer_in q (filter stays cs)
        ≡ cond (list_any (λ n. n == q) (serials_of (filter leaves cs))) None (timer_in q cs)
        → timer_in q (cond a (c ∷ filter stays cs) (filter stays cs))
        ≡ cond (list_any (λ n. n == q) (serials_of (cond (not a) (c ∷ filter leaves cs) (filter leaves cs)))) None
        (cond (c.sid == q) (in_reach c.timer) (timer_in q cs))
    by true true e rest =
        ap (λ b. cond b (in_reach c.timer) (timer_in q (filter stays cs))) e
        ∙ sym (ap (λ b. cond b None (cond (c.sid == q) (in_reach c.timer) (timer_in q cs)))
        (above_of q c.sid (serials_of (filter leaves cs)) e (fewer_above leaves c.sid cs above))
        ∙ ap (λ b. cond b (in_reach c.timer) (timer_in q cs)) e)
    by true false e rest =
        ap (λ b. cond b (in_reach c.timer) (timer_in q (filter stays cs))) e
        ∙ (rest ∙ ap (λ o. cond (list_any (λ n. n == q) (serials_of (filter leaves cs))) None o)
        (sym (ap (λ b. cond b (in_reach c.timer) (timer_in q cs)) e)))
    by false true e rest =
        no_timer q (filter stays cs) (above_of q c.sid (serials_of (filter stays cs)) e (fewer_above stays c.sid cs above))
        ∙ sym (ap (λ b. cond (b || list_any (λ n. n == q) (serials_of (filter leaves cs))) None
        (cond (c.sid == q) (in_reach c.timer) (timer_in q cs))) e)
    by false false e rest =
        rest
        ∙ sym (ap (λ b. cond (b || list_any (λ n. n == q) (serials_of (filter leaves cs))) None (cond b (in_reach c.timer) (timer_in q cs))) e)

-- the timers that are cleared
clears_in : (q : ℕ) (sids : List ℕ) (ts : List Timer)
    → set_in q (with_timer_changes (map (λ sid. Clear sid) sids) ts) ≡ cond (list_any (λ n. n == q) sids) None (set_in q ts)
clears_in q [] ts = refl
clears_in q (s ∷ sids) ts = clears_in q sids (without_timer s ts) ∙ by (s == q) (list_any (λ n. n == q) sids) (cleared_in s q ts)
  where
    by : (a b : Bool) → set_in q (without_timer s ts) ≡ cond a None (set_in q ts)
        → cond b None (set_in q (without_timer s ts)) ≡ cond (a || b) None (set_in q ts)
    by true true e = refl
    by true false e = e
    by false true e = refl
    by false false e = e

-- those that leave take their timers with them
pub departures_agree : (ts : List Timer) (cs : List ChartState) → is_rising (serials_of cs) ≡ true → TimersAgree ts cs
    → TimersAgree (with_timer_changes (map (λ sid. Clear sid) (serials_of (filter leaves cs))) ts) (filter stays cs)
departures_agree ts cs r a = record {
  order = rises_changed (map (λ sid. Clear sid) (serials_of (filter leaves cs))) ts a.order;
  moments = λ q.
      clears_in q (serials_of (filter leaves cs)) ts
      ∙ (ap (λ o. cond (list_any (λ n. n == q) (serials_of (filter leaves cs))) None o) (a.moments q) ∙ sym (timer_filtered q cs r));
}

-- one more service
timer_last : (q : ℕ) (xs : List ChartState) (x : ChartState) → list_any (λ n. n == x.sid) (serials_of xs) ≡ false
    → timer_in q (xs ++ x ∷ []) ≡ cond (x.sid == q) (in_reach x.timer) (timer_in q xs)
timer_last q [] x h = refl
timer_last q (y ∷ xs) x h =
    ap (λ o. cond (y.sid == q) (in_reach y.timer) o) (timer_last q xs x (neither_right (y.sid == x.sid) _ h))
    ∙ by (y.sid == q) (x.sid == q) refl refl
  where
    apart : (y.sid == x.sid) ≡ false
    apart = neither_left (y.sid == x.sid) _ h

    by : (a b : Bool) → (y.sid == q) ≡ a → (x.sid == q) ≡ b
        → cond a (in_reach y.timer) (cond b (in_reach x.timer) (timer_in q xs))
        ≡ cond b (in_reach x.timer) (cond a (in_reach y.timer) (timer_in q xs))
    by true true e f = let same : (y.sid == x.sid) ≡ true =
        ap (λ n. y.sid == n) (one_number x.sid q f ∙ sym (one_number y.sid q e)) ∙ itself y.sid in let other = apart in cc
    by true false e f = refl
    by false true e f = refl
    by false false e f = refl

-- in rising serials none has a later one's
absent_before : (xs : List ChartState) (x : ChartState) (rest : List ChartState) → is_rising (serials_of (xs ++ x ∷ rest)) ≡ true
    → list_any (λ n. n == x.sid) (serials_of xs) ≡ false
absent_before [] x rest r = refl
absent_before (y ∷ xs) x rest r =
    neither_of (y.sid == x.sid) _ (earlier_other y.sid x.sid (behind xs (both_left _ (is_rising (serials_of (xs ++ x ∷ rest))) r)))
    (absent_before xs x rest (both_right _ (is_rising (serials_of (xs ++ x ∷ rest))) r))
  where
    behind : (zs : List ChartState) → list_all (λ m. nat_lt y.sid m) (serials_of (zs ++ x ∷ rest)) ≡ true → nat_lt y.sid x.sid ≡ true
    behind [] h = both_left (nat_lt y.sid x.sid) _ h
    behind (z ∷ zs) h = behind zs (both_right (nat_lt y.sid z.sid) _ h)

-- those that come bring theirs
pub arrivals_agree : (added : List ChartState) (ts : List Timer) (xs : List ChartState) → is_rising (serials_of (xs ++ added)) ≡ true
    → TimersAgree ts xs
    → TimersAgree (with_timer_changes (map timer_change_of added) ts) (xs ++ added)
arrivals_agree [] ts xs r a = subst (λ (cs : List ChartState). TimersAgree ts cs) (sym (append-nil xs)) a
arrivals_agree (x ∷ added) ts xs r a =
    subst (λ (cs : List ChartState). TimersAgree (with_timer_changes (map timer_change_of added) (with_timer_change ts (timer_change_of x))) cs)
    (append_assoc xs (x ∷ []) added)
    (arrivals_agree added (with_timer_change ts (timer_change_of x)) (xs ++ x ∷ [])
    (ap (λ cs. is_rising (serials_of cs)) (append_assoc xs (x ∷ []) added) ∙ r)
    (record {
      order = rises_changed (timer_change_of x ∷ []) ts a.order;
      moments = λ q.
          changed_in x.sid q (in_reach x.timer) ts
          ∙ (ap (λ o. cond (x.sid == q) (in_reach x.timer) o) (a.moments q) ∙ sym (timer_last q xs x (absent_before xs x added r)));
    }))

-- all that a scan does to the timers
pub scan_timers : (ts : List Timer) (touched : List TimerChange) (sids : List ℕ) (added cs final : List ChartState)
    → is_rising (serials_of cs) ≡ true
    → sids ≡ serials_of (filter leaves cs) → final ≡ filter stays cs ++ added → is_rising (serials_of final) ≡ true
    → TimersAgree (with_timer_changes touched ts) cs
    → TimersAgree (with_timer_changes (touched ++ (map (λ sid. Clear sid) sids ++ map timer_change_of added)) ts) final
scan_timers ts touched sids added cs final r s f rises a =
    let left = departures_agree (with_timer_changes touched ts) cs r a in
    let come = arrivals_agree added (with_timer_changes (map (λ sid. Clear sid) (serials_of (filter leaves cs))) (with_timer_changes touched ts))
    (filter stays cs) (ap (λ xs. is_rising (serials_of xs)) (sym f) ∙ rises) left in
    let told : with_timer_changes (touched ++ (map (λ sid. Clear sid) sids ++ map timer_change_of added)) ts
    ≡ with_timer_changes (map timer_change_of added)
    (with_timer_changes (map (λ sid. Clear sid) (serials_of (filter leaves cs))) (with_timer_changes touched ts)) =
    fold-append with_timer_change ts touched (map (λ sid. Clear sid) sids ++ map timer_change_of added)
    ∙ (fold-append with_timer_change (with_timer_changes touched ts) (map (λ sid. Clear sid) sids) (map timer_change_of added)
    ∙ ap (λ ns. with_timer_changes (map timer_change_of added) (with_timer_changes (map (λ sid. Clear sid) ns) (with_timer_changes touched ts))) s)
    in
    subst (λ (us : List Timer). TimersAgree us final) (sym told)
    (subst (λ (xs : List ChartState). TimersAgree
    (with_timer_changes (map timer_change_of added)
    (with_timer_changes (map (λ sid. Clear sid) (serials_of (filter leaves cs))) (with_timer_changes touched ts))) xs) (sym f) come)
