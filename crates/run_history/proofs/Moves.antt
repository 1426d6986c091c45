-- Each step keeps the rule.
use Rattle.std.proofs.Common.{◌≡◌, ◌≢◌, ℕ, zero, suc, List, [], ◌∷◌, set, true, false, true≢false, refl, sym, ◌∙◌, subst, ⊎_elim}
use mathlib.Core.Option.{some, some-ne-none, some-injective}
use mathlib.Core.List.{IsPrefix}
use lib.ListN.{get_elem?}
use Rattle.crossbeam_utils.specs.Register.{Turns, Forks, Merges}
use Rattle.atomic_table.proofs.Lists.{at_set, at_snoc, set_again}
use Rattle.run_history.specs.declared.history.View.{View}
use Rattle.std.specs.declared.alloc.Global.{Global}
use Rattle.tree_core.specs.declared.input.Input.{Input}
use Rattle.run_history.specs.Views.{knower, nobody, claim_of, shown, Kept, Extended, Checked}
use Rattle.status_board.proofs.Beginnings.{prefix_self, prefix_trans}

-- what the rule says of one view
abbrev Fits : ℕ → List (Input Global) → ℕ → View → Type 0
Fits seat log by v = (v.keeps ≡ true → (by ≡ seat) × (v.all ≡ log)) × IsPrefix v.claim log

fits_set : (seat : ℕ) (now : List (Input Global)) (views : List View) (by : ℕ) (w : View)
    → ((j : ℕ) (u : View) → j ≢ by → get_elem? views j ≡ some u → Fits seat now j u) → Fits seat now by w
    → (j : ℕ) (u : View) → get_elem? (set views by w) j ≡ some u → Fits seat now j u
fits_set seat now views by w others mine j u e =
    ⊎_elim
    (λ (x : (j ≡ by) × (w ≡ u)). subst (λ (y : ℕ × View). Fits seat now y.0 y.1) (λ i. (sym x.0 i, x.1 i)) mine)
    (λ (x : (j ≢ by) × (get_elem? views j ≡ some u)). others j u x.0 x.1)
    (at_set views by j w u e)

off : false ≡ true → ⊥
off e = true≢false (sym e)

none_begins : (log : List (Input Global)) → IsPrefix [] log
none_begins log = (log, refl)

pub begins : (words : List ℕ) → Kept words (knower [] ∷ [])
begins words = (0, [], one)
  where
    one : (by : ℕ) (v : View) → get_elem? (knower [] ∷ []) by ≡ some v → Fits 0 [] by v
    one zero v e = subst (Fits 0 [] 0) (some-injective _ _ e) ((λ _. (refl, refl)), none_begins [])
    one (suc by) v e = absurd (some-ne-none v (sym e))

pub checks : (by : ℕ) (v : View) → v.keeps ≡ true → Turns Kept by v (λ x. x) Checked
checks by v keeps words views h at =
    let mine = h.2 by v at in
    let known = mine.0 keeps in
    let w = knower v.all in (
      w,
      (h.0, h.1, fits_set h.0 h.1 views by w (λ j u apart e. h.2 j u e) ((λ _. known), none_begins h.1)),
      (refl, subst (λ l. IsPrefix v.claim l) (sym known.1) mine.1),
    )

pub gives : (by : ℕ) (all : List (Input Global)) → Forks Kept by (knower all) (knower all) (claim_of (knower all))
gives by all words views h at =
    let mine = (h.2 by (knower all) at).0 refl in (
      h.0,
      h.1,
      λ j u e. ⊎_elim
          (λ was. h.2 j u (subst (λ l. get_elem? l j ≡ some u) (set_again views by (knower all) at) was))
          (λ (same : claim_of (knower all) ≡ u). subst (Fits h.0 h.1 j) same
          ((λ k. absurd (off k)), subst (λ l. IsPrefix all l) mine.1 (prefix_self all)))
          (at_snoc (set views by (knower all)) (claim_of (knower all)) u j e),
    )

pub takes_in : (by : ℕ) (all : List (Input Global)) (other : ℕ) (u : View) → Merges Kept by (knower all) other u (shown (knower all) u) nobody
takes_in by all other u words views h at apart there =
    let w = shown (knower all) u in
    let mine = (h.2 by (knower all) at).0 refl in
    let theirs = ⊎_elim (λ (t : (other ≡ by) × (w ≡ u)). absurd (apart t.0))
    (λ (t : (other ≢ by) × (get_elem? views other ≡ some u)). h.2 other u t.1) (at_set views by other w u there) in (
      h.0,
      h.1,
      fits_set h.0 h.1 (set views by w) other nobody
          (λ j v _ e. fits_set h.0 h.1 views by w (λ i y _ e'. h.2 i y e') ((λ _. mine), theirs.1) j v e)
          ((λ k. absurd (off k)), none_begins h.1),
    )

-- the moves, at a view that is known
pub gives_as : (by : ℕ) (v : View) (all : List (Input Global)) → v ≡ knower all → Forks Kept by v v (claim_of v)
gives_as by v all is = subst (λ (u : View). Forks Kept by u u (claim_of u)) (sym is) (gives by all)

pub takes_in_as : (by : ℕ) (v : View) (all : List (Input Global)) (other : ℕ) (u : View) → v ≡ knower all
    → Merges Kept by v other u (shown v u) nobody
takes_in_as by v all other u is = subst (λ (x : View). Merges Kept by x other u (shown x u) nobody) (sym is) (takes_in by all other u)

pub extends : (by : ℕ) (all whole : List (Input Global)) (new : List ℕ) → IsPrefix all whole → Turns Kept by (knower all) (λ _. new) (Extended whole)
extends by all whole new longer words views h at =
    let mine = (h.2 by (knower all) at).0 refl in
    let begins : IsPrefix h.1 whole = subst (λ l. IsPrefix l whole) mine.1 longer in (
      knower whole,
      (
        h.0,
        whole,
        fits_set h.0 whole views by (knower whole)
            (λ j u apart e. ((λ k. absurd (apart (((h.2 j u e).0 k).0 ∙ sym mine.0))), prefix_trans u.claim h.1 whole (h.2 j u e).1 begins))
            ((λ _. (mine.0, refl)), none_begins whole),
      ),
      refl,
    )

pub extends_as : (by : ℕ) (v : View) (all whole : List (Input Global)) (new : List ℕ) → v ≡ knower all → IsPrefix all whole
    → Turns Kept by v (λ _. new) (Extended whole)
extends_as by v all whole new is longer = subst (λ (u : View). Turns Kept by u (λ _. new) (Extended whole)) (sym is) (extends by all whole new longer)
