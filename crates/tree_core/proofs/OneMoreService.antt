-- What is ahead of the services at the first places, and of one more.
use Rattle.std.proofs.Common.{◌≡◌, ◌∙◌, ◌∷◌, ◌++◌, ◌+◌, [], List, ℕ, zero, suc, Bool, true, false, ◌&&◌, refl, sym, ap, map, take, rules, Some}
use Rattle.std.specs.Prelude.{Option, None, slice_get, unwrap_or}
use Rattle.std.specs.List.{list_all}
use Rattle.std.proofs.lemmas.List.{map-append}
use Rattle.std.proofs.lemmas.List.Sums.{fold-append}
use Rattle.supervise_core.specs.declared.chart_state.ChartState.{ChartState}
use Rattle.supervise_core.specs.Service.{Supervised}
use Rattle.svscan_core.specs.Table.{charts_of}
use Rattle.wait_conditions.specs.NextDeadline.{earlier_of, earliest}
use Rattle.tree_core.specs.NextDue.{next_timer}
use Rattle.tree_core.proofs.RowFound.{rows_more}

-- the state of the service at a place
chart_there : (services : List Supervised) (p : ℕ) (s : Supervised) → slice_get services p ≡ Some s
    → slice_get (charts_of services) p ≡ Some s.chart
chart_there [] p s e = search rules
chart_there (x ∷ services) zero s e = ap (λ o. Some (unwrap_or o x).chart) e
chart_there (x ∷ services) (suc p) s e = chart_there services p s e

one_more : (services : List Supervised) (p : ℕ) (s : Supervised) → slice_get services p ≡ Some s
    → take p (charts_of services) ++ s.chart ∷ [] ≡ take (p + 1) (charts_of services)
one_more services p s e = rows_more (take p (charts_of services)) (charts_of services) p s.chart (chart_there services p s e) refl

-- its timer among those of the services before it
pub timer_more : (services : List Supervised) (p : ℕ) (s : Supervised) (next : Option ℕ) → slice_get services p ≡ Some s
    → next ≡ next_timer (take p (charts_of services))
    → earlier_of next s.chart.timer ≡ next_timer (take (p + 1) (charts_of services))
timer_more services p s next e before =
    ap (λ n. earlier_of n s.chart.timer) before
    ∙ (sym (fold-append earlier_of None (map (λ (c : ChartState). c.timer) (take p (charts_of services))) (s.chart.timer ∷ []))
    ∙ (ap earliest (sym (map-append (λ (c : ChartState). c.timer) (take p (charts_of services)) (s.chart ∷ [])))
    ∙ ap next_timer (one_more services p s e)))

-- a test of all services, as far as it was made
all_last : (p : ChartState → Bool) (cs : List ChartState) (c : ChartState) → list_all p cs ≡ true → p c ≡ true → list_all p (cs ++ c ∷ []) ≡ true
all_last p [] c h one = ap (λ b. b && true) one
all_last p (x ∷ cs) c h one = by (p x) (all_last p cs c) h
  where
    by : (b : Bool) → (list_all p cs ≡ true → p c ≡ true → list_all p (cs ++ c ∷ []) ≡ true) → (b && list_all p cs) ≡ true
        → (b && list_all p (cs ++ c ∷ [])) ≡ true
    by true later h = later h one
    by false later h = h

pub all_more : (p : ChartState → Bool) (services : List Supervised) (k : ℕ) (s : Supervised) → slice_get services k ≡ Some s
    → list_all p (take k (charts_of services)) ≡ true → p s.chart ≡ true → list_all p (take (k + 1) (charts_of services)) ≡ true
all_more p services k s e h one =
    ap (list_all p) (sym (one_more services k s e)) ∙ all_last p (take k (charts_of services)) s.chart h one

pub one_not : (p : ChartState → Bool) (services : List Supervised) (k : ℕ) (s : Supervised) → slice_get services k ≡ Some s
    → p s.chart ≡ false → list_all p (charts_of services) ≡ false
one_not p [] k s e h = search rules
one_not p (x ∷ services) zero s e h = ap (λ b. b && list_all p (charts_of services)) (ap (λ o. p (unwrap_or o x).chart) e ∙ h)
one_not p (x ∷ services) (suc k) s e h = by (p x.chart) (one_not p services k s e h)
  where
    by : (b : Bool) → list_all p (charts_of services) ≡ false → (b && list_all p (charts_of services)) ≡ false
    by true later = later
    by false later = refl
