-- Which timers are due, where timers agree with the services.
use Rattle.std.proofs.Common.{subst, ◌≡◌, refl, sym, ap, ◌∙◌, ℕ, zero, suc, ◌<◌, ◌≤◌, List, [], ◌∷◌, Bool, true, false, ◌||◌, ◌==◌, cond, arith}
use Rattle.std.proofs.Common.{map, max, filter, length, get_or}
use Rattle.std.specs.Prelude.{Option, Some, None, nat_lt, nat_le}
use Rattle.std.specs.List.{list_any, list_all}
use Rattle.std.proofs.lemmas.Bool.Decides.{nat_tests}
use Rattle.s6_events.specs.At.{last_moment}
use Rattle.deadlines.specs.declared.timer.Timer.{Timer}
use Rattle.deadlines.specs.Timers.{rises, due_by, is_rising}
use Rattle.supervise_core.specs.declared.chart_state.ChartState.{ChartState}
use Rattle.supervise_core.specs.Chart.{is_due}
use Rattle.svscan_core.specs.Sound.{IsNumbered}
use Rattle.svscan_core.specs.Table.{serials_of}
use Rattle.svscan_core.specs.Timers.{in_reach, timer_in, set_in, TimersAgree}
use Rattle.svscan_core.specs.Work.{AreDue}
use Rattle.svscan_core.proofs.Serials.{itself, later_other, earlier_other}
use Rattle.svscan_core.proofs.SerialsRise.{rising_before}
use Rattle.svscan_core.proofs.Timers.{one_number}
use Rattle.svscan_core.proofs.Truth.{both_left, both_right, neither_left, neither_right}
use Rattle.tree_core.specs.declared.input.Input.{Input}
use Rattle.tree_core.specs.Plan.{IsQuiet}

clock_stays : (now clock at : ℕ) → now ≡ max clock at → at ≤ clock → now ≡ clock
clock_stays now clock at is early = is ∙ omega arith

-- a serial is due among timers in rising serial, where its timer is due
later_unset : (s : ℕ) (ts : List Timer) → list_all (λ t. nat_lt s t.sid) ts ≡ true → set_in s ts ≡ None
later_unset s [] h = refl
later_unset s (t ∷ ts) h =
    ap (λ b. cond b (Some t.at) (set_in s ts)) (later_other s t.sid (both_left (nat_lt s t.sid) _ h))
    ∙ later_unset s ts (both_right (nat_lt s t.sid) _ h)

due_found : (now q : ℕ) (ts : List Timer) → rises ts ≡ true → list_any (λ sid. sid == q) (due_by now ts) ≡ is_due now (set_in q ts)
due_found now q [] r = refl
due_found now q (t ∷ ts) r = by (nat_le t.at now) (t.sid == q) refl refl (due_found now q ts (both_right _ (rises ts) r))
  where
    by : (a b : Bool) → nat_le t.at now ≡ a → (t.sid == q) ≡ b → list_any (λ sid. sid == q) (due_by now ts) ≡ is_due now (set_in q ts)
        → list_any (λ sid. sid == q) (map (λ u. u.sid) (cond a (t ∷ filter (λ u. nat_le u.at now) ts) (filter (λ u. nat_le u.at now) ts)))
        ≡ is_due now (cond b (Some t.at) (set_in q ts))
    by true true e f rest = ap (λ b. b || list_any (λ sid. sid == q) (due_by now ts)) f ∙ sym e
    by true false e f rest = ap (λ b. b || list_any (λ sid. sid == q) (due_by now ts)) f ∙ rest
    by false true e f rest =
        rest
        ∙ (ap (is_due now) (ap (λ n. set_in n ts) (sym (one_number t.sid q f)) ∙ later_unset t.sid ts (both_left _ (rises ts) r))
        ∙ sym e)
    by false false e f rest = rest

-- each of the services in rising serial has its own timer
above_all : (s : ℕ) (cs : List ChartState) (k : ℕ) (d : ChartState) → list_all (λ m. nat_lt s m) (serials_of cs) ≡ true → k < length cs
    → nat_lt s (get_or cs k d).sid ≡ true
above_all s [] k d h lt = absurd (omega (arith, lt))
above_all s (c ∷ cs) zero d h lt = both_left (nat_lt s c.sid) _ h
above_all s (c ∷ cs) (suc k) d h lt = above_all s cs k d (both_right (nat_lt s c.sid) _ h) (omega (arith, lt))

own_timer : (cs : List ChartState) (k : ℕ) (d : ChartState) → is_rising (serials_of cs) ≡ true → k < length cs
    → timer_in (get_or cs k d).sid cs ≡ in_reach (get_or cs k d).timer
own_timer [] k d r lt = absurd (omega (arith, lt))
own_timer (c ∷ cs) zero d r lt = ap (λ b. cond b (in_reach c.timer) (timer_in c.sid cs)) (itself c.sid)
own_timer (c ∷ cs) (suc k) d r lt =
    ap (λ b. cond b (in_reach c.timer) (timer_in (get_or cs k d).sid cs))
    (earlier_other c.sid (get_or cs k d).sid (above_all c.sid cs k d (both_left _ (is_rising (serials_of cs)) r) (omega (arith, lt))))
    ∙ own_timer cs k d (both_right _ (is_rising (serials_of cs)) r) (omega (arith, lt))

-- a timer past the greatest moment is never due
past_due : (now due : ℕ) → now ≤ last_moment → nat_le due last_moment ≡ false → nat_le due now ≡ false
past_due now due l h = grind (arith, nat_tests)

due_in_reach : (now : ℕ) (timer : Option ℕ) → now ≤ last_moment → is_due now (in_reach timer) ≡ is_due now timer
due_in_reach now None l = refl
due_in_reach now (Some due) l = by (nat_le due last_moment) refl
  where
    by : (b : Bool) → nat_le due last_moment ≡ b → is_due now (cond b (Some due) None) ≡ nat_le due now
    by true h = refl
    by false h = sym (past_due now due l h)

-- the serials of the due timers are those of the services whose timers are due
pub due_agrees : (now : ℕ) (ts : List Timer) (services : List ChartState) → now ≤ last_moment → TimersAgree ts services
    → is_rising (serials_of services) ≡ true
    → AreDue (due_by now ts) now services
due_agrees now ts services l a r = λ k d lt.
    due_found now (get_or services k d).sid ts a.order
    ∙ (ap (is_due now) (a.moments (get_or services k d).sid ∙ own_timer services k d r lt) ∙ due_in_reach now (get_or services k d).timer l)

-- where no service is due no timer is
rest_timer : (now q : ℕ) (cs : List ChartState) → now ≤ last_moment → list_any (λ c. is_due now c.timer) cs ≡ false
    → is_due now (timer_in q cs) ≡ false
rest_timer now q [] l h = refl
rest_timer now q (c ∷ cs) l h = by (c.sid == q) (rest_timer now q cs l (neither_right (is_due now c.timer) _ h))
  where
    by : (b : Bool) → is_due now (timer_in q cs) ≡ false → is_due now (cond b (in_reach c.timer) (timer_in q cs)) ≡ false
    by true rest = due_in_reach now c.timer l ∙ neither_left (is_due now c.timer) _ h
    by false rest = rest

nothing_in : (xs : List ℕ) → ((q : ℕ) → list_any (λ n. n == q) xs ≡ false) → xs ≡ []
nothing_in [] h = refl
nothing_in (x ∷ xs) h = let here : (x == x) ≡ false = neither_left (x == x) _ (h x) in let there = itself x in cc

pub none_due : (now : ℕ) (ts : List Timer) (services : List ChartState) → now ≤ last_moment → TimersAgree ts services
    → list_any (λ c. is_due now c.timer) services ≡ false
    → due_by now ts ≡ []
none_due now ts services l a h = nothing_in (due_by now ts)
    (λ q. due_found now q ts a.order ∙ (ap (is_due now) (a.moments q) ∙ rest_timer now q services l h))

-- the serials that are found due are those of the services whose timers are due
pub due_now : (now next : ℕ) (due : List ℕ) (ts : List Timer) (services : List ChartState) → now ≤ last_moment → due ≡ due_by now ts
    → TimersAgree ts services → IsNumbered next services → AreDue due now services
due_now now next due ts services l is a numbered =
    subst (λ (sids : List ℕ). AreDue sids now services) (sym is) (due_agrees now ts services l a (rising_before (serials_of services) next numbered))

-- for a quiet input there is none
pub none_for_quiet : {A : Type 0} (input : Input A) (clock now : ℕ) (due : List ℕ) (ts : List Timer) (services : List ChartState)
    → now ≡ max clock input.at → now ≤ last_moment → due ≡ due_by now ts → TimersAgree ts services → IsQuiet input clock services → due ≡ []
none_for_quiet input clock now due ts services e l is a q =
    let late : now ≡ clock = clock_stays now clock input.at e q.early in
    is ∙ none_due now ts services l a (subst (λ (n : ℕ). list_any (λ c. is_due n c.timer) services ≡ false) (sym late) q.rest)
