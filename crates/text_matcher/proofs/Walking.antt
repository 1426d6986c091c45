-- A search that goes over a text letter by letter, and what it finds.
use Rattle.std.proofs.Common.{◌≡◌, refl, sym, ap, ap₂, subst, ◌∙◌, ℕ, zero, suc, ◌+◌, ◌-◌, ◌<◌, ◌≤◌, ◌++◌, List, [], ◌∷◌, length, Bool, true, false, All, Some, None, arith, inl, inr, ⊎_elim, get_or, is_some, eqb, ne_eqb}
use Rattle.std.proofs.lemmas.Bool.{cond-false, cases_lt}
use Rattle.std.proofs.lemmas.Option.{slice_get-get_or, same_Some}
use Rattle.std.proofs.lemmas.List.{get_or_append_left, length-append, get_or_push}
use Rattle.std.specs.Prelude.{◌⊎◌, Contains, slice_get}
use Rattle.regex_hir.specs.Looks.{holds, holds_between, side_before, side_after}
use Rattle.regex_hir.specs.Text.{byte_before, char_before}
use Rattle.regex_hir.specs.declared.look.Look.{Look}
use Rattle.regex_hir.proofs.TextLemmas.{char_at_ascii, char_before_ascii}
use Rattle.regex_nfa.specs.Paths as path
use Rattle.regex_nfa.specs.Paths.{EmptyEdge, by_first, by_second, by_save, by_look, ByteEdge, Accepts}
use Rattle.regex_nfa.specs.Run.{state_of, run}
use Rattle.regex_nfa.specs.States.{next_on, byte_below}
use Rattle.regex_nfa.specs.declared.nfa.Nfa.{Nfa}
use Rattle.regex_nfa.specs.declared.state.State.TheVariants.{Match}
use Rattle.regex_nfa.proofs.PathsLemmas.{IsSome-run_of_Accepts, run_none_of_no_path}
use Rattle.regex_nfa.proofs.RunLemmas.{byte_below_some, byte_below_inside}
use Rattle.text_matcher.specs.Expression.{has_match}
use Rattle.text_matcher.specs.Matching.{Matches}
use Rattle.text_matcher.specs.Walks.{Stands, begun, skipped, consumed, AllStand, ComesTo, EndsBefore, HasMatchState, HasWalked, HasStood, HasNoAssertion}
use Rattle.text_matcher.proofs.Searching.{found_by_walk}

-- it stands within the bytes, or at their end
pub stands_within : (nfa : Nfa) (hay : List ℕ) (i q : ℕ) → Stands nfa hay i q → i ≤ length hay
stands_within nfa hay i q (begun _ _ here first) = omega (arith, here)
stands_within nfa hay i q (skipped _ p _ s edge) = stands_within nfa hay i p s
stands_within nfa hay i q (consumed _ k p _ next s edge) =
    let inside = (byte_below_some hay (length hay) k edge.0 edge.1).0 in omega (arith, next, inside)

-- where it stands in a state from which a path goes on, a path leads on from the beginning
from_beginning : (nfa : Nfa) (hay : List ℕ) (end i q : ℕ) → Stands nfa hay i q → Accepts nfa hay (length hay) end q i
    → Accepts nfa hay (length hay) end nfa.unanchored 0
from_beginning nfa hay end i q (begun _ _ here first) rest =
    subst (λ k. Accepts nfa hay (length hay) end nfa.unanchored k) here (subst (λ p. Accepts nfa hay (length hay) end p i) first rest)
from_beginning nfa hay end i q (skipped _ p _ s edge) rest = from_beginning nfa hay end i p s (path.skipped p i q edge rest)
from_beginning nfa hay end i q (consumed _ k p _ next s edge) rest =
    from_beginning nfa hay end k p s (path.consumed p k q edge (subst (λ n. Accepts nfa hay (length hay) end q n) next rest))

-- a path from where it stands leads it to a match
to_match : (nfa : Nfa) (hay : List ℕ) (end i q : ℕ) → Stands nfa hay i q → Accepts nfa hay (length hay) end q i
    → (j : ℕ) × (p : ℕ) × Stands nfa hay j p × (state_of nfa p ≡ Match)
to_match nfa hay end i q s (path.matched _ _ is here) = (i, q, s, is)
to_match nfa hay end i q s (path.skipped _ _ r edge rest) = to_match nfa hay end i r (skipped i q r s edge) rest
to_match nfa hay end i q s (path.consumed _ _ r edge rest) = to_match nfa hay end (i + 1) r (consumed (i + 1) i q r refl s edge) rest

pub found_where_it_stands : (nfa : Nfa) (hay : List ℕ) (i q : ℕ) → Stands nfa hay i q → state_of nfa q ≡ Match
    → is_some (run nfa hay (length hay) nfa.unanchored 0) ≡ true
found_where_it_stands nfa hay i q s is =
    IsSome-run_of_Accepts nfa hay (length hay) i nfa.unanchored 0 (from_beginning nfa hay i i q s (path.matched q i is refl))

pub none_where_none_stands : (nfa : Nfa) (hay : List ℕ) → ((i q : ℕ) → Stands nfa hay i q → state_of nfa q ≡ Match → ⊥)
    → is_some (run nfa hay (length hay) nfa.unanchored 0) ≡ false
none_where_none_stands nfa hay none =
    ap is_some (run_none_of_no_path nfa hay (length hay) nfa.unanchored 0 (λ end way.
    let found = to_match nfa hay end 0 nfa.unanchored (begun 0 nfa.unanchored refl refl) way in none found.0 found.1 found.2 found.3))

-- the sides of a place between letters below 128
after_ascii : (hay : List ℕ) (i b : ℕ) → slice_get hay i ≡ Some b → b < 128 → side_after hay i ≡ record { byte = Some b; char = Some b }
after_ascii hay i b e lt = ap₂ (λ x y. record { byte = x; char = y }) e (char_at_ascii hay i b e lt)

before_ascii : (hay : List ℕ) (i b : ℕ) → byte_before hay i ≡ Some b → b < 128 → side_before hay i ≡ record { byte = Some b; char = Some b }
before_ascii hay i b e lt = ap₂ (λ x y. record { byte = x; char = y }) e (char_before_ascii hay i b e lt)

no_byte_first : (hay : List ℕ) → byte_before hay 0 ≡ None
unfolding byte_before
no_byte_first hay = refl

no_char_first : (hay : List ℕ) → char_before hay 0 ≡ None
unfolding char_before
no_char_first hay = refl

byte_before_later : (hay : List ℕ) (i : ℕ) → byte_before hay (suc i) ≡ slice_get hay (suc i - 1)
unfolding byte_before
byte_before_later hay i = cond-false (eqb (suc i) 0) None _ (ne_eqb (suc i) 0 (omega arith))

-- two texts with the same bytes and the same assertions before place n
module _ (nfa : Nfa) (hay other : List ℕ) (n : ℕ)
    (same_byte : (i : ℕ) → i < n → byte_below hay (length hay) i ≡ byte_below other (length other) i)
    (same_looks : (i : ℕ) → i < n → (l : Look) → holds l hay i ≡ holds l other i) where
  same_edge : (i q r : ℕ) → i < n → EmptyEdge nfa hay i q r → EmptyEdge nfa other i q r
  same_edge i q r lt (by_first second is) = by_first second is
  same_edge i q r lt (by_second first is) = by_second first is
  same_edge i q r lt (by_save slot is) = by_save slot is
  same_edge i q r lt (by_look l is ok) = by_look l is (sym (same_looks i lt l) ∙ ok)

  same_read : (i q r : ℕ) → i < n → ByteEdge nfa hay (length hay) i q r → ByteEdge nfa other (length other) i q r
  same_read i q r lt edge = (edge.0, sym (same_byte i lt) ∙ edge.1, edge.2)

  same_stand : (i q : ℕ) → i < n → Stands nfa hay i q → Stands nfa other i q
  same_stand i q lt (begun _ _ here first) = begun i q here first
  same_stand i q lt (skipped _ p _ s edge) = skipped i p q (same_stand i p lt s) (same_edge i p q lt edge)
  same_stand i q lt (consumed _ k p _ next s edge) =
      let before : k < n = omega (arith, lt, next) in consumed i k p q next (same_stand k p before s) (same_read k p q before edge)

  same_come : (q : ℕ) → ComesTo nfa hay n q → ComesTo nfa other n q
  same_come q = ⊎_elim inl (λ w.
      let before : w.0 < n = omega (arith, w.2) in
      inr (w.0, w.1, w.2, same_stand w.0 w.1 before w.3, same_read w.0 w.1 q before w.4))

  same_end : EndsBefore nfa hay n → EndsBefore nfa other n
  same_end w = (w.0, w.1, w.2, same_stand w.0 w.1 w.2 w.3, w.4)

-- without assertions, where it stands behind some letters doesn't depend on those to come
module _ (nfa : Nfa) (plain : HasNoAssertion nfa) where
  plain_edge : (hay other : List ℕ) (i q r : ℕ) → EmptyEdge nfa hay i q r → EmptyEdge nfa other i q r
  plain_edge hay other i q r (by_first second is) = by_first second is
  plain_edge hay other i q r (by_second first is) = by_second first is
  plain_edge hay other i q r (by_save slot is) = by_save slot is
  plain_edge hay other i q r (by_look l is ok) = absurd (plain q l r is)

  plain_stand : (hay other : List ℕ) (n : ℕ) → ((i : ℕ) → i < n → byte_below hay (length hay) i ≡ byte_below other (length other) i)
      → (i q : ℕ) → i ≤ n → Stands nfa hay i q → Stands nfa other i q
  plain_stand hay other n same i q le (begun _ _ here first) = begun i q here first
  plain_stand hay other n same i q le (skipped _ p _ s edge) =
      skipped i p q (plain_stand hay other n same i p le s) (plain_edge hay other i p q edge)
  plain_stand hay other n same i q le (consumed _ k p _ next s edge) =
      let before : k < n = omega (arith, le, next) in
      consumed i k p q next (plain_stand hay other n same k p (omega (arith, before)) s) (edge.0, sym (same k before) ∙ edge.1, edge.2)

  plain_end : (hay other : List ℕ) (n : ℕ) → ((i : ℕ) → i < n → byte_below hay (length hay) i ≡ byte_below other (length other) i)
      → EndsBefore nfa hay (n + 1) → EndsBefore nfa other (n + 1)
  plain_end hay other n same w = (w.0, w.1, w.2, plain_stand hay other n same w.0 w.1 (omega (arith, w.2)) w.3, w.4)

-- a text that goes on, of letters below 128
module _ (xs ys : List ℕ) (ascii : All (λ b. b < 128) (xs ++ ys)) where
  there : (i : ℕ) → i < length xs → slice_get (xs ++ ys) i ≡ Some (get_or xs i 0)
  there i lt =
      let long = length-append xs ys in
      slice_get-get_or (xs ++ ys) i 0 (omega (arith, lt, long)) ∙ ap Some (get_or_append_left xs ys 0 i lt)

  small : (i : ℕ) → i < length xs → get_or xs i 0 < 128
  small i lt =
      let long = length-append xs ys in
      let own = ascii i 0 (omega (arith, lt, long)) in
      subst (λ b. b < 128) (get_or_append_left xs ys 0 i lt) own

  keeps_byte : (i : ℕ) → i < length xs → byte_below xs (length xs) i ≡ byte_below (xs ++ ys) (length (xs ++ ys)) i
  keeps_byte i lt =
      let long = length-append xs ys in
      byte_below_inside xs (length xs) i lt
      ∙ (slice_get-get_or xs i 0 lt ∙ (sym (there i lt) ∙ sym (byte_below_inside (xs ++ ys) (length (xs ++ ys)) i (omega (arith, lt, long)))))

  keeps_after : (i : ℕ) → i < length xs → side_after xs i ≡ side_after (xs ++ ys) i
  keeps_after i lt =
      after_ascii xs i (get_or xs i 0) (slice_get-get_or xs i 0 lt) (small i lt)
      ∙ sym (after_ascii (xs ++ ys) i (get_or xs i 0) (there i lt) (small i lt))

  keeps_before : (i : ℕ) → i < length xs → side_before xs i ≡ side_before (xs ++ ys) i
  keeps_before zero lt =
      ap₂ (λ x y. record { byte = x; char = y }) (no_byte_first xs) (no_char_first xs)
      ∙ sym (ap₂ (λ x y. record { byte = x; char = y }) (no_byte_first (xs ++ ys)) (no_char_first (xs ++ ys)))
  keeps_before (suc i) lt =
      let k = suc i - 1 in
      let inside : k < length xs = omega (arith, lt) in
      before_ascii xs (suc i) (get_or xs k 0) (byte_before_later xs i ∙ slice_get-get_or xs k 0 inside) (small k inside)
      ∙ sym (before_ascii (xs ++ ys) (suc i) (get_or xs k 0) (byte_before_later (xs ++ ys) i ∙ there k inside) (small k inside))

  keeps_looks : (i : ℕ) → i < length xs → (l : Look) → holds l xs i ≡ holds l (xs ++ ys) i
  unfolding holds
  keeps_looks i lt l = ap₂ (holds_between l) (keeps_before i lt) (keeps_after i lt)

  pub walk_goes_on : (nfa : Nfa) (behind : List ℕ) (has_matched : Bool) → HasWalked nfa xs (length xs) behind has_matched
      → HasWalked nfa (xs ++ ys) (length xs) behind has_matched
  walk_goes_on nfa behind has_matched walked = record {
    comes = λ q has. same_come nfa xs (xs ++ ys) (length xs) keeps_byte keeps_looks q (walked.comes q has);
    all = λ q come. walked.all q (same_come nfa (xs ++ ys) xs (length xs) (λ i lt. sym (keeps_byte i lt))
        (λ i lt l. sym (keeps_looks i lt l)) q come);
    found = λ e. same_end nfa xs (xs ++ ys) (length xs) keeps_byte keeps_looks (walked.found e);
    none = λ e ends.
        walked.none e (same_end nfa (xs ++ ys) xs (length xs) (λ i lt. sym (keeps_byte i lt)) (λ i lt l. sym (keeps_looks i lt l)) ends);
  }

  pub stood_goes_on : (nfa : Nfa) (states : List ℕ) (has_matched : Bool) → HasNoAssertion nfa
      → HasStood nfa xs (length xs) states has_matched → HasStood nfa (xs ++ ys) (length xs) states has_matched
  stood_goes_on nfa states has_matched plain stood =
      let back : (i : ℕ) → i < length xs → byte_below (xs ++ ys) (length (xs ++ ys)) i ≡ byte_below xs (length xs) i =
      λ i lt. sym (keeps_byte i lt) in
      record {
        only = λ q has. plain_stand nfa plain xs (xs ++ ys) (length xs) keeps_byte (length xs) q (omega arith) (stood.only q has);
        all = λ q s. stood.all q (plain_stand nfa plain (xs ++ ys) xs (length xs) back (length xs) q (omega arith) s);
        found = λ e. plain_end nfa plain xs (xs ++ ys) (length xs) keeps_byte (stood.found e);
        none = λ e ends. stood.none e (plain_end nfa plain (xs ++ ys) xs (length xs) back ends);
      }

-- where it comes to a place, it stands there
stands_of_come : (nfa : Nfa) (hay : List ℕ) (i q : ℕ) → ComesTo nfa hay i q → Stands nfa hay i q
stands_of_come nfa hay i q = ⊎_elim (λ h. begun i q h.0 h.1) (λ w. consumed i w.0 w.1 q w.2 w.3 w.4)

module _ (nfa : Nfa) (hay : List ℕ) (n : ℕ) (behind reached : List ℕ) (has_matched : Bool) (walked : HasWalked nfa hay n behind has_matched)
    (from : (q : ℕ) → Contains behind q → Contains reached q)
    (closed : (q r : ℕ) → Contains reached q → EmptyEdge nfa hay n q r → Contains reached r) where
  listed : (i q : ℕ) → i ≡ n → Stands nfa hay i q → Contains reached q
  listed i q e (begun _ _ here first) = from q (walked.all q (inl (sym e ∙ here, first)))
  listed i q e (skipped _ p _ s edge) = closed p q (listed i p e s) (subst (λ k. EmptyEdge nfa hay k p q) e edge)
  listed i q e (consumed _ k p _ next s edge) = from q (walked.all q (inr (k, p, sym e ∙ next, s, edge)))

  pub stands_there : (now : Bool) → (AllStand nfa hay n behind → AllStand nfa hay n reached)
      → (now ≡ true → (has_matched ≡ true) ⊎ HasMatchState nfa reached)
      → (now ≡ false → (has_matched ≡ false) × (HasMatchState nfa reached → ⊥)) → HasStood nfa hay n reached now
  stands_there now only found none =
      let stand : AllStand nfa hay n reached = only (λ q has. stands_of_come nfa hay n q (walked.comes q has)) in
      record {
        only = stand;
        all = λ q s. listed n q refl s;
        found = λ e. ⊎_elim
            (λ before. let w = walked.found before in (w.0, w.1, omega (arith, w.2), w.3, w.4))
            (λ w. (n, w.0, omega arith, stand w.0 w.1, w.2))
            (found e);
        none = λ e w.
            let h = none e in
            elim (cases_lt w.0 n) [
              | inl before ↦ walked.none h.0 (w.0, w.1, before, w.3, w.4)
              | inr behind ↦ let here : w.0 ≡ n = omega (arith, behind, w.2) in h.1 (w.1, listed w.0 w.1 here w.3, w.4)
            ];
      }

-- one letter more
pub walks_on : (nfa : Nfa) (hay : List ℕ) (n b : ℕ) (states next : List ℕ) (has_matched : Bool) → HasStood nfa hay n states has_matched
    → byte_below hay (length hay) n ≡ Some b
    → ((r : ℕ) → Contains next r → (q : ℕ) × Contains states q × (next_on nfa.transitions.items (state_of nfa q) b ≡ Some r))
    → ((q r : ℕ) → Contains states q → next_on nfa.transitions.items (state_of nfa q) b ≡ Some r → Contains next r)
    → HasWalked nfa hay (n + 1) next has_matched
walks_on nfa hay n b states next has_matched stood letter only all = record {
  comes = λ r has. let w = only r has in inr (n, w.0, refl, stood.only w.0 w.1, (b, letter, w.2));
  all = λ r. ⊎_elim (λ h. absurd (omega (arith, h.0))) (λ w.
      let here : w.0 ≡ n = omega (arith, w.2) in
      let own : w.4.0 ≡ b = same_Some w.4.0 b (sym w.4.1 ∙ (ap (byte_below hay (length hay)) here ∙ letter)) in
      all w.1 r (stood.all w.1 (subst (λ k. Stands nfa hay k w.1) here w.3))
      (ap (next_on nfa.transitions.items (state_of nfa w.1)) (sym own) ∙ w.4.2));
  found = stood.found;
  none = stood.none;
}

pub last_letter : (xs : List ℕ) (b : ℕ) → byte_below (xs ++ b ∷ []) (length (xs ++ b ∷ [])) (length xs) ≡ Some b
last_letter xs b =
    let long = length-append xs (b ∷ []) in
    let inside : length xs < length (xs ++ b ∷ []) = omega (arith, long) in
    byte_below_inside (xs ++ b ∷ []) (length (xs ++ b ∷ [])) (length xs) inside
    ∙ (slice_get-get_or (xs ++ b ∷ []) (length xs) 0 inside ∙ ap Some (get_or_push xs b 0 (length xs) refl))

-- what it tells at the end of the text
told : (nfa : Nfa) (hay states : List ℕ) (has_matched : Bool) → HasStood nfa hay (length hay) states has_matched
    → has_matched ≡ is_some (run nfa hay (length hay) nfa.unanchored 0)
told nfa hay states true stood = let w = stood.found refl in sym (found_where_it_stands nfa hay w.0 w.1 w.3 w.4)
told nfa hay states false stood =
    sym (none_where_none_stands nfa hay (λ i q s is.
    let inside = stands_within nfa hay i q s in stood.none refl (i, q, omega (arith, inside), s, is)))

pub found_at_end : (nfa : Nfa) (text hay states : List ℕ) (has_matched : Bool) → ∥ Matches nfa text ∥₁ → All (λ b. b < 128) hay
    → HasStood nfa hay (length hay) states has_matched → has_matched ≡ has_match text hay
found_at_end nfa text hay states has_matched built ascii stood =
    told nfa hay states has_matched stood ∙ found_by_walk nfa text hay built (λ k d lt. let small = ascii k d lt in omega (arith, small))

-- what is known of a text and a place, where they are told otherwise
pub at_place : (P : List ℕ → ℕ → Type 0) (bytes hay : List ℕ) (end n : ℕ) → bytes ≡ hay → end ≡ n → P bytes end → P hay n
at_place P bytes hay end n is here p = subst (λ (k : ℕ). P hay k) here (subst (λ (h : List ℕ). P h end) is p)

-- where it begins
pub begins : (nfa : Nfa) (hay behind : List ℕ) → Contains behind nfa.unanchored → ((q : ℕ) → Contains behind q → nfa.unanchored ≡ q)
    → HasWalked nfa hay 0 behind false
begins nfa hay behind first only = record {
  comes = λ q has. inl (refl, sym (only q has));
  all = λ q. ⊎_elim (λ h. subst (λ x. Contains behind x) (sym h.1) first) (λ w. absurd (omega (arith, w.2)));
  found = λ e. let bad : false ≡ true = e in cc;
  none = λ e w. absurd (omega (arith, w.2));
}
