-- Listings that say the same of every name do the same to the services.
use Rattle.std.proofs.Common.{◌≡◌, ℕ, List, [], ◌∷◌, cond, refl, ◌∙◌, ap, subst}
use Rattle.supervise_core.specs.declared.chart_state.ChartState.{ChartState}
use Rattle.supervise_core.specs.Chart.{with_activity}
use Rattle.supervise_core.specs.ChartState.{Moved, no_move}
use Rattle.svscan_core.specs.declared.entry.Entry.{Entry}
use Rattle.svscan_core.specs.Moving.{StepSoFar, Takes}
use Rattle.svscan_core.specs.Scan.{ScanState, with_read_config, after_look, stands, with_new_name, with_name, with_names}
use Rattle.svscan_core.specs.SortedListing.{AreAlike}

looks_alike : (a b : List Entry) → AreAlike a b → (now : ℕ) (c : ChartState) → after_look a now c ≡ after_look b now c
looks_alike a b same now c = λ i. with_read_config (same.read c.name i) (with_activity (same.has c.name i) now c)

pub takes_alike : (a b : List Entry) → AreAlike a b → (now : ℕ) (old new : StepSoFar) → Takes now (λ c. no_move (after_look a now c)) old new
    → Takes now (λ c. no_move (after_look b now c)) old new
takes_alike a b same now old new takes =
    subst (λ (m : ChartState → Moved). Takes now m old new) (λ i c. no_move (looks_alike a b same now c i)) takes

name_alike : (a b : List Entry) → AreAlike a b → (g : ScanState) (name : List ℕ) → with_name a g name ≡ with_name b g name
name_alike a b same g name = λ i. cond (stands name g.services) g (with_new_name (same.read name i) g name)

pub names_alike : (a b : List Entry) → AreAlike a b → (g : ScanState) (names : List (List ℕ)) → with_names a g names ≡ with_names b g names
names_alike a b same g [] = refl
names_alike a b same g (name ∷ names) =
    ap (λ x. with_names a x names) (name_alike a b same g name) ∙ names_alike a b same (with_name b g name) names
