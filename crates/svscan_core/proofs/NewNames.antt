-- Names that are new to a list.
use Rattle.std.proofs.Common.{◌≡◌, ◌∙◌, ℕ, Bool, true, false, ◌||◌, List, [], ◌∷◌, ◌++◌, bytes_eq, refl, sym, ap, ap₂, true≢false}
use Rattle.std.specs.List.{list_any}
use Rattle.std.specs.Cmp.Lexicographic.{nat_list_eq_equiv}
use Rattle.supervise_core.specs.Service.{Supervised}
use Rattle.svscan_core.specs.Names.{lists, repeats_name}
use Rattle.svscan_core.specs.Table.{charts_of, names_of}

neither : (a b : Bool) → (a || b) ≡ false → (a ≡ false) × (b ≡ false)
neither true b e = absurd (true≢false e)
neither false b e = (refl, e)

-- a name that is not in a list is not that of a service in it
other_name : (name : List ℕ) (before : List Supervised) (s : Supervised) (after : List Supervised)
    → lists (names_of (charts_of (before ++ s ∷ after))) name ≡ false → bytes_eq name s.chart.name ≡ false
other_name name [] s after e = (neither _ _ e).0
other_name name (x ∷ before) s after e = other_name name before s after (neither (bytes_eq name x.chart.name) _ e).1

-- where no name is there twice none before a service has its name
new_name : (before : List Supervised) (s : Supervised) (after : List Supervised) → repeats_name (names_of (charts_of (before ++ s ∷ after))) ≡ false
    → list_any (λ x. bytes_eq s.chart.name x.chart.name) before ≡ false
new_name [] s after e = refl
new_name (x ∷ before) s after e =
    let both = neither (lists (names_of (charts_of (before ++ s ∷ after))) x.chart.name)
    (repeats_name (names_of (charts_of (before ++ s ∷ after)))) e in
    ap₂ (λ a b. a || b) (nat_list_eq_equiv.symm s.chart.name x.chart.name ∙ other_name x.chart.name before s after both.0)
    (new_name before s after both.1)

-- the next one of those that are added has a name that none before it has
pub next_is_new : (before rest : List Supervised) (s : Supervised) (after all : List Supervised) → rest ≡ s ∷ after → before ++ rest ≡ all
    → repeats_name (names_of (charts_of all)) ≡ false → list_any (λ x. bytes_eq s.chart.name x.chart.name) before ≡ false
next_is_new before rest s after all next whole none =
    new_name before s after (ap (λ xs. repeats_name (names_of (charts_of xs))) (ap (λ xs. before ++ xs) (sym next) ∙ whole) ∙ none)
