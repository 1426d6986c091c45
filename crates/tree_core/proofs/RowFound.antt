-- The rows of what services store are those of each history that agrees with it.
use Rattle.std.proofs.Math.Numerals.{add-one}
use Rattle.std.specs.Prelude.{slice_get, unwrap_or}
use Rattle.supervise_core.specs.declared.row.Row.{Row}
use Rattle.std.proofs.Common.{rules, subst, map, ◌∙◌, ◌+◌, ◌++◌, ℕ, zero, sym, ap, take, ◌≡◌, List, [], ◌∷◌, Bool, true, false, cond, refl, find}
use Rattle.std.proofs.Common.{suc, arith, Some, option_map}
use Rattle.s6_events.specs.declared.moment.Moment.{Moment}
use Rattle.supervise_core.specs.declared.chart_state.ChartState.{ChartState}
use Rattle.supervise_core.specs.Service.{Supervised, AgreesWith}
use Rattle.svscan_core.specs.Sound.{AllAgree}
use Rattle.svscan_core.specs.Table.{charts_of}

-- the state of a service that is found is the state that is found
pub find_charts : {X : Type 0} (f : ChartState → X) (p : ChartState → Bool) (services : List Supervised)
    → option_map (λ s. f s.chart) (find (λ s. p s.chart) services) ≡ option_map f (find p (charts_of services))
find_charts f p [] = refl
find_charts f p (s ∷ rest) = by (p s.chart) (find_charts f p rest)
  where
    by : (b : Bool) → option_map (λ s. f s.chart) (find (λ s. p s.chart) rest) ≡ option_map f (find p (charts_of rest))
        → option_map (λ s. f s.chart) (cond b (Some s) (find (λ s. p s.chart) rest))
        ≡ option_map f (cond b (Some s.chart) (find p (charts_of rest)))
    by true later = refl
    by false later = later

-- a history that agrees with all agrees with one that is found
pub agrees_with_found : (q : Supervised → Bool) (services : List Supervised) (history : List Moment) (s : Supervised) → AllAgree services history
    → Some s ≡ find q services
    → AgreesWith s history
agrees_with_found q [] history s all found = cc
agrees_with_found q (x ∷ rest) history s all found = by (q x) found (agrees_with_found q rest history s (λ k d lt. all (suc k) d (omega arith)))
  where
    by : (b : Bool) → Some s ≡ cond b (Some x) (find q rest) → (Some s ≡ find q rest → AgreesWith s history) → AgreesWith s history
    by true here later = let same : s ≡ x = cc here in rw same (all 0 x (omega arith))
    by false there later = later there

-- one more row
pub rows_more : {X : Type 0} (rows all : List X) (p : ℕ) (x : X) → slice_get all p ≡ Some x → rows ≡ take p all → rows ++ x ∷ [] ≡ take (p + 1) all
rows_more {X} rows all p x there so_far = ap (λ xs. xs ++ x ∷ []) so_far ∙ sym (ap (λ n. take n all) (add-one p) ∙ taken all p x there)
  where
    taken : (ys : List X) (q : ℕ) (y : X) → slice_get ys q ≡ Some y → take (suc q) ys ≡ take q ys ++ y ∷ []
    taken [] q y e = search rules
    taken (z ∷ ys) zero y e = ap (λ w. w ∷ []) (ap (λ o. unwrap_or o z) e)
    taken (z ∷ ys) (suc q) y e = ap (λ zs. z ∷ zs) (taken ys q y e)

-- the row at a place
pub row_there : (services : List Supervised) (p : ℕ) (s : Supervised) (f : ChartState → Row) → Some s ≡ slice_get services p
    → slice_get (map f (charts_of services)) p ≡ Some (f s.chart)
row_there [] p s f e = search rules
row_there (x ∷ services) zero s f e = ap (λ o. Some (f (unwrap_or o x).chart)) (sym e)
row_there (x ∷ services) (suc p) s f e = row_there services p s f e

pub agrees_there : (services : List Supervised) (p : ℕ) (s : Supervised) (history : List Moment) → AllAgree services history
    → Some s ≡ slice_get services p → AgreesWith s history
agrees_there [] p s history all e = search rules
agrees_there (x ∷ services) zero s history all e =
    subst (λ (y : Supervised). AgreesWith y history) (sym (ap (λ o. unwrap_or o x) e)) (all 0 x (omega arith))
agrees_there (x ∷ services) (suc p) s history all e = agrees_there services p s history (λ k d lt. all (suc k) d (omega (arith, lt))) e
