-- The services that leave, and those that stay.
use Rattle.std.proofs.Common.{◌≡◌, ℕ, zero, suc, ◌+◌, ◌≤◌, List, [], ◌∷◌, ◌++◌, Bool, true, false, cond, not, refl, sym, ◌∙◌, ap, filter, take}
use Rattle.std.proofs.Common.{length, append-nil, append_assoc, rules, arith}
use Rattle.std.specs.Prelude.{All, Some, slice_get, bytes_eq}
use Rattle.std.specs.Cmp.Lexicographic.{nat_list_eq_equiv}
use Rattle.std.proofs.lemmas.List.{map-append, length-append}
use Rattle.std.proofs.lemmas.List.Elements.{filter-append}
use Rattle.std.proofs.Math.Numerals.{add-one}
use Rattle.supervise_core.specs.declared.chart_state.ChartState.{ChartState}
use Rattle.supervise_core.specs.Service.{Supervised}
use Rattle.svscan_core.specs.Names.{lists, repeats_name}
use Rattle.svscan_core.specs.Scan.{stays, leaves}
use Rattle.svscan_core.specs.Scanning.{without_names}
use Rattle.svscan_core.specs.Table.{charts_of, names_of, serials_of, without_name}
use Rattle.svscan_core.proofs.Agreeing.{all_of, all_later}
use Rattle.svscan_core.proofs.Names.{unlisted_filtered}
use Rattle.svscan_core.proofs.Truth.{neither_left, neither_right}

-- the first ones and one more
take_one : {X : Type 0} (xs : List X) (p : ℕ) (x : X) → slice_get xs p ≡ Some x → take (suc p) xs ≡ take p xs ++ x ∷ []
take_one [] p x e = search rules
take_one (y ∷ xs) zero x e = ap (λ z. z ∷ []) (some_is y x e)
  where
    some_is : {X : Type 0} (x s : X) → Some x ≡ Some s → x ≡ s
    some_is x s e = search rules
take_one (y ∷ xs) (suc p) x e = ap (λ zs. y ∷ zs) (take_one xs p x e)

one_more : {X : Type 0} (test : X → Bool) (xs : List X) (p : ℕ) (x : X) → slice_get xs p ≡ Some x
    → filter test (take (p + 1) xs) ≡ filter test (take p xs) ++ filter test (x ∷ [])
one_more test xs p x e = ap (λ n. filter test (take n xs)) (add-one p)
    ∙ (ap (filter test) (take_one xs p x e) ∙ filter-append test (take p xs) (x ∷ []))

-- the names and serials of those that leave of the first ones, and how many of them stay
pub record Planned (cs : List ChartState) (p : ℕ) (old_names names : List (List ℕ)) (old_sids sids : List ℕ) (retained : ℕ) : Type 0 where
  pub their_names : names ≡ old_names ++ names_of (filter leaves (take p cs))
  pub their_sids : sids ≡ old_sids ++ serials_of (filter leaves (take p cs))
  pub count : retained ≡ length (filter stays (take p cs))
  pub few : retained ≤ p

filtered : {X : Type 0} (test : X → Bool) (x : X) (b : Bool) → test x ≡ b → filter test (x ∷ []) ≡ cond b (x ∷ []) []
filtered test x b e = ap (λ d. cond d (x ∷ []) []) e

-- one more stays
pub one_stays : (cs : List ChartState) (p : ℕ) (c : ChartState) (old_names names : List (List ℕ)) (old_sids sids : List ℕ) (retained : ℕ)
    → slice_get cs p ≡ Some c → stays c ≡ true
    → Planned cs p old_names names old_sids sids retained → Planned cs (p + 1) old_names names old_sids sids (retained + 1)
one_stays cs p c old_names names old_sids sids retained there stay h =
    let out : filter leaves (take (p + 1) cs) ≡ filter leaves (take p cs) =
    one_more leaves cs p c there ∙ (ap (λ xs. filter leaves (take p cs) ++ xs) (filtered leaves c false (ap not stay))
    ∙ append-nil (filter leaves (take p cs))) in
    let kept : filter stays (take (p + 1) cs) ≡ filter stays (take p cs) ++ c ∷ [] =
    one_more stays cs p c there ∙ ap (λ xs. filter stays (take p cs) ++ xs) (filtered stays c true stay) in
    let few = h.few in
    record {
      their_names = h.their_names ∙ ap (λ xs. old_names ++ names_of xs) (sym out);
      their_sids = h.their_sids ∙ ap (λ xs. old_sids ++ serials_of xs) (sym out);
      count = ap (λ n. n + 1) h.count ∙ (sym (length-append (filter stays (take p cs)) (c ∷ [])) ∙ ap length (sym kept));
      few = omega (arith, few);
    }

-- one more leaves
pub one_leaves : (cs : List ChartState) (p : ℕ) (c : ChartState) (old_names names : List (List ℕ)) (old_sids sids : List ℕ) (retained : ℕ)
    → slice_get cs p ≡ Some c → stays c ≡ false
    → Planned cs p old_names names old_sids sids retained
    → Planned cs (p + 1) old_names (names ++ c.name ∷ []) old_sids (sids ++ c.sid ∷ []) retained
one_leaves cs p c old_names names old_sids sids retained there stay h =
    let out : filter leaves (take (p + 1) cs) ≡ filter leaves (take p cs) ++ c ∷ [] =
    one_more leaves cs p c there ∙ ap (λ xs. filter leaves (take p cs) ++ xs) (filtered leaves c true (ap not stay)) in
    let kept : filter stays (take (p + 1) cs) ≡ filter stays (take p cs) =
    one_more stays cs p c there ∙ (ap (λ xs. filter stays (take p cs) ++ xs) (filtered stays c false stay)
    ∙ append-nil (filter stays (take p cs))) in
    let few = h.few in
    record {
      their_names = ap (λ ns. ns ++ c.name ∷ []) h.their_names
          ∙ (append_assoc old_names (names_of (filter leaves (take p cs))) (c.name ∷ [])
          ∙ ap (λ ns. old_names ++ ns) (sym (ap names_of out ∙ map-append (λ (x : ChartState). x.name) (filter leaves (take p cs)) (c ∷ []))));
      their_sids = ap (λ ns. ns ++ c.sid ∷ []) h.their_sids
          ∙ (append_assoc old_sids (serials_of (filter leaves (take p cs))) (c.sid ∷ [])
          ∙ ap (λ ns. old_sids ++ ns) (sym (ap serials_of out ∙ map-append (λ (x : ChartState). x.sid) (filter leaves (take p cs)) (c ∷ []))));
      count = h.count ∙ ap length (sym kept);
      few = omega (arith, few);
    }

-- the first ones are all of them
pub all_taken : (services : List Supervised) (p : ℕ) → length services ≤ p → take p (charts_of services) ≡ charts_of services
all_taken [] zero h = refl
all_taken [] (suc p) h = refl
all_taken (s ∷ services) zero h = absurd (omega (arith, h))
all_taken (s ∷ services) (suc p) h = ap (λ cs. s.chart ∷ cs) (all_taken services p (omega (arith, h)))

-- a name of none of these takes out none of them
without_other : (s : Supervised) (names : List (List ℕ)) (services : List Supervised) → lists names s.chart.name ≡ false
    → without_names (s ∷ services) names ≡ s ∷ without_names services names
without_other s [] services h = refl
without_other s (n ∷ names) services h =
    let apart : bytes_eq n s.chart.name ≡ false = nat_list_eq_equiv.symm n s.chart.name ∙ neither_left (bytes_eq s.chart.name n) _ h in
    ap (λ b. without_names (cond b services (s ∷ without_name services n)) names) apart
    ∙ without_other s names (without_name services n) (neither_right (bytes_eq s.chart.name n) _ h)

-- without the names of those that leave there are those that stay
pub without_dropped : (services : List Supervised) → repeats_name (names_of (charts_of services)) ≡ false
    → charts_of (without_names services (names_of (filter leaves (charts_of services)))) ≡ filter stays (charts_of services)
without_dropped [] h = refl
without_dropped (s ∷ services) h = by (stays s.chart)
    (without_dropped services (neither_right (lists (names_of (charts_of services)) s.chart.name) _ h))
  where
    unlisted : lists (names_of (filter leaves (charts_of services))) s.chart.name ≡ false
    unlisted = unlisted_filtered leaves s.chart.name (charts_of services) (neither_left (lists (names_of (charts_of services)) s.chart.name) _ h)

    by : (b : Bool) → charts_of (without_names services (names_of (filter leaves (charts_of services)))) ≡ filter stays (charts_of services)
        → charts_of (without_names (s ∷ services)
        (names_of (cond (not b) (s.chart ∷ filter leaves (charts_of services)) (filter leaves (charts_of services)))))
        ≡ cond b (s.chart ∷ filter stays (charts_of services)) (filter stays (charts_of services))
    by true rest = ap charts_of (without_other s (names_of (filter leaves (charts_of services))) services unlisted) ∙ ap (λ cs. s.chart ∷ cs) rest
    by false rest =
        ap (λ b. charts_of (without_names (cond b services (s ∷ without_name services s.chart.name))
        (names_of (filter leaves (charts_of services))))) (nat_list_eq_equiv.refl s.chart.name)
        ∙ rest

-- what is true of all services is true of fewer
one_less : (P : Supervised → Type 0) (services : List Supervised) (name : List ℕ) → All P services → All P (without_name services name)
one_less P [] name all = all
one_less P (s ∷ services) name all =
    let later = all_later P s services all in
    by (bytes_eq name s.chart.name) later (one_less P services name later)
  where
    by : (b : Bool) → All P services → All P (without_name services name) → All P (cond b services (s ∷ without_name services name))
    by true later rest = later
    by false later rest = all_of P s (without_name services name) (all 0 s (omega arith)) rest

pub without_all : (P : Supervised → Type 0) (services : List Supervised) (names : List (List ℕ)) → All P services
    → All P (without_names services names)
without_all P services [] all = all
without_all P services (n ∷ names) all = without_all P (without_name services n) names (one_less P services n all)
