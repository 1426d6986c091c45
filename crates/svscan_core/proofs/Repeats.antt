-- A name that is there before is there twice.
use Rattle.std.proofs.Common.{◌≡◌, ℕ, List, Bool, true, false, ◌||◌, ◌+◌, ◌<◌, cond, not, length, take, get_or, refl, sym, ◌∙◌, ap}
use Rattle.std.specs.Prelude.{bytes_eq}
use Rattle.std.specs.List.{list_any}
use Rattle.std.specs.Cmp.Lexicographic.{nat_list_eq_equiv}
use Rattle.svscan_core.specs.Names.{lists, repeats_name}
use Rattle.svscan_core.proofs.ListingOrder.{listed_last, more_names, repeats_last, twice}

-- the names that are known are those so far
abbrev pub AreKnown : List (List ℕ) → List (List ℕ) → Type 0
AreKnown known names = (q : List ℕ) → list_any (bytes_eq q) known ≡ lists names q

pub known_more : (names : List (List ℕ)) (i : ℕ) (name : List ℕ) (before after : List (List ℕ)) → i < length names → name ≡ get_or names i name
    → ((q : List ℕ) → list_any (bytes_eq q) after ≡ cond (bytes_eq name q) true (list_any (bytes_eq q) before))
    → AreKnown before (take i names) → AreKnown after (take (i + 1) names)
known_more names i name before after lt at put known = λ q.
    put q
    ∙ ((λ j. cond (nat_list_eq_equiv.symm name q j) true (known q j))
    ∙ (by (bytes_eq q name) (lists (take i names) q)
    ∙ (sym (listed_last (take i names) name q)
    ∙ ap (λ ns. lists ns q) (sym (more_names names i name lt at)))))
  where
    by : (b was : Bool) → cond b true was ≡ (was || b)
    by true true = refl
    by true false = refl
    by false true = refl
    by false false = refl

pub repeats_known : (names : List (List ℕ)) (i : ℕ) (name : List ℕ) (before : List (List ℕ)) (was added : Bool) → i < length names
    → name ≡ get_or names i name → AreKnown before (take i names) → was ≡ repeats_name (take i names)
    → added ≡ not (list_any (bytes_eq name) before) → (was || not added) ≡ repeats_name (take (i + 1) names)
repeats_known names i name before was added lt at known seen new =
    (λ j. seen j || not (new j))
    ∙ (ap (λ b. repeats_name (take i names) || b) (twice (list_any (bytes_eq name) before) ∙ known name)
    ∙ (sym (repeats_last (take i names) name)
    ∙ ap repeats_name (sym (more_names names i name lt at))))
