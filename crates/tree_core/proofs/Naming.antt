-- The serials of names, one name after the other.
use Rattle.std.proofs.Common.{◌≡◌, ◌∙◌, ℕ, ◌<◌, ◌+◌, List, [], ◌∷◌, ◌++◌, true, refl, sym, ap, take, length, get_or}
use Rattle.std.specs.Prelude.{Some, is_some}
use Rattle.std.specs.List.{cons_option}
use Rattle.std.proofs.lemmas.List.{take_more}
use Rattle.std.proofs.lemmas.List.Elements.{filter_map-append}
use Rattle.std.proofs.lemmas.List.Folds.{list_all-append}
use Rattle.supervise_core.specs.declared.chart_state.ChartState.{ChartState}
use Rattle.svscan_core.proofs.Truth.{both_of}
use Rattle.tree_core.specs.ActRefusals.{all_named, serial_of, serials_named}

next_name : (names : List (List ℕ)) (i : ℕ) (name : List ℕ) → i < length names → name ≡ get_or names i name
    → take (i + 1) names ≡ take i names ++ name ∷ []
next_name names i name lt is = take_more names i name lt ∙ ap (λ n. take i names ++ n ∷ []) (sym is)

pub more_named : (names : List (List ℕ)) (cs : List ChartState) (i : ℕ) (name : List ℕ) → i < length names → name ≡ get_or names i name → (sid : ℕ)
    → serial_of name cs ≡ Some sid
    → all_named (take i names) cs ≡ true → all_named (take (i + 1) names) cs ≡ true
more_named names cs i name lt is sid found all =
    ap (λ ns. all_named ns cs) (next_name names i name lt is)
    ∙ (list_all-append (λ n. is_some (serial_of n cs)) (take i names) (name ∷ [])
    ∙ both_of (all_named (take i names) cs) _ all (both_of (is_some (serial_of name cs)) true (ap is_some found) refl))

pub more_serials : (names : List (List ℕ)) (cs : List ChartState) (i : ℕ) (name : List ℕ) → i < length names → name ≡ get_or names i name
    → (sid : ℕ) → serial_of name cs ≡ Some sid
    → (sids : List ℕ) → sids ≡ serials_named (take i names) cs → sids ++ sid ∷ [] ≡ serials_named (take (i + 1) names) cs
more_serials names cs i name lt is sid found sids e =
    ap (λ ss. ss ++ sid ∷ []) e
    ∙ (ap (λ o. serials_named (take i names) cs ++ cons_option o []) (sym found)
    ∙ (sym (filter_map-append (λ n. serial_of n cs) (take i names) (name ∷ []))
    ∙ ap (λ ns. serials_named ns cs) (sym (next_name names i name lt is))))
