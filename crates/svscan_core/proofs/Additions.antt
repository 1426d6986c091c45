-- One listed name after the other.
use Rattle.std.proofs.Common.{◌≡◌, ℕ, zero, suc, ◌+◌, ◌<◌, List, [], ◌∷◌, ◌++◌, Bool, true, false, ◌||◌, cond, refl, sym, ◌∙◌, ap, take, get_or}
use Rattle.std.proofs.Common.{length, arith}
use Rattle.std.specs.Prelude.{nat_lt, bytes_eq, Option, Some, None}
use Rattle.std.specs.List.{list_any}
use Rattle.std.specs.Cmp.Lexicographic.{nat_list_eq_equiv}
use Rattle.std.proofs.lemmas.List.{take_more}
use Rattle.std.proofs.lemmas.List.Sums.{fold-append}
use Rattle.servicedir.specs.declared.config.Config.{Config}
use Rattle.supervise_core.specs.declared.chart_state.ChartState.{ChartState}
use Rattle.supervise_core.specs.ChartState.{new_service}
use Rattle.supervise_core.specs.Moves.{begin_move}
use Rattle.supervise_core.specs.Service.{Supervised}
use Rattle.supervise_core.proofs.Identity.{keeps_begin}
use Rattle.svscan_core.specs.declared.entry.Entry.{Entry}
use Rattle.svscan_core.specs.Adding.{Adding, state_behind, GoesOn, Grows}
use Rattle.svscan_core.specs.Listing.{listed_config}
use Rattle.svscan_core.specs.Names.{lists, repeats_name}
use Rattle.svscan_core.specs.Scan.{ScanState, stands, service_limit, with_service, with_new_name, with_name, with_names}
use Rattle.svscan_core.specs.Table.{charts_of}
use Rattle.svscan_core.proofs.ListingOrder.{repeats_last}
use Rattle.svscan_core.proofs.Truth.{neither_left, neither_right, neither_of, either_left, either_right}

-- a service of another name at the end
stands_last : (q : List ℕ) (cs : List ChartState) (c : ChartState) → bytes_eq q c.name ≡ false → stands q (cs ++ c ∷ []) ≡ stands q cs
stands_last q [] c h = neither_of (bytes_eq q c.name) false h refl
stands_last q (x ∷ cs) c h = ap (λ b. bytes_eq q x.name || b) (stands_last q cs c h)

stands_either : (q : List ℕ) (g : ScanState) (b : Bool) (x y : ScanState) → stands q x.services ≡ stands q g.services
    → stands q y.services ≡ stands q g.services
    → stands q (cond b x y).services ≡ stands q g.services
stands_either q g true x y hx hy = hx
stands_either q g false x y hx hy = hy

stands_new : (q : List ℕ) (found : Option Config) (g : ScanState) (name : List ℕ) → bytes_eq q name ≡ false
    → stands q (with_new_name found g name).services ≡ stands q g.services
stands_new q None g name h = refl
stands_new q (Some config) g name h =
    stands_either q g (nat_lt (length g.services) service_limit) (with_service config g name) _
    (stands_last q g.services (begin_move (new_service g.next_sid name config)).chart
    (ap (bytes_eq q) (keeps_begin g.next_sid name config).name ∙ h)) refl

stands_named : (listing : List Entry) (g : ScanState) (q name : List ℕ) → bytes_eq q name ≡ false
    → stands q (with_name listing g name).services ≡ stands q g.services
stands_named listing g q name h = stands_either q g (stands name g.services) g _ refl (stands_new q (listed_config listing name) g name h)

-- the names so far gave no service to another name
stands_before : (listing : List Entry) (g : ScanState) (names : List (List ℕ)) (q : List ℕ) → lists names q ≡ false
    → stands q (with_names listing g names).services ≡ stands q g.services
stands_before listing g [] q h = refl
stands_before listing g (name ∷ names) q h =
    stands_before listing (with_name listing g name) names q (neither_right (bytes_eq q name) _ h)
    ∙ stands_named listing g q name (neither_left (bytes_eq q name) _ h)

-- the name at a place is in the list, and not before it
listed_at : (names : List (List ℕ)) (i : ℕ) (name d : List ℕ) → i < length names → name ≡ get_or names i d → lists names name ≡ true
listed_at [] i name d lt e = absurd (omega (arith, lt))
listed_at (x ∷ names) zero name d lt e = either_left (bytes_eq name x) _ (ap (bytes_eq name) (sym e) ∙ nat_list_eq_equiv.refl name)
listed_at (x ∷ names) (suc i) name d lt e = either_right (bytes_eq name x) _ (listed_at names i name d (omega (arith, lt)) e)

unlisted_first : (names : List (List ℕ)) (n : ℕ) (q : List ℕ) → lists names q ≡ false → lists (take n names) q ≡ false
unlisted_first [] zero q h = refl
unlisted_first [] (suc n) q h = refl
unlisted_first (x ∷ names) zero q h = refl
unlisted_first (x ∷ names) (suc n) q h = neither_of (bytes_eq q x) _ (neither_left (bytes_eq q x) _ h)
    (unlisted_first names n q (neither_right (bytes_eq q x) _ h))

once_first : (names : List (List ℕ)) (n : ℕ) → repeats_name names ≡ false → repeats_name (take n names) ≡ false
once_first [] zero h = refl
once_first [] (suc n) h = refl
once_first (x ∷ names) zero h = refl
once_first (x ∷ names) (suc n) h =
    neither_of (lists (take n names) x) _ (unlisted_first names n x (neither_left (lists names x) _ h))
    (once_first names n (neither_right (lists names x) _ h))

more_names : (names : List (List ℕ)) (i : ℕ) (name : List ℕ) → i < length names → name ≡ get_or names i name
    → take (i + 1) names ≡ take i names ++ name ∷ []
more_names names i name lt at = take_more names i name lt ∙ ap (λ n. take i names ++ n ∷ []) (sym at)

pub new_at : (names : List (List ℕ)) (i : ℕ) (name : List ℕ) → repeats_name names ≡ false → i < length names → name ≡ get_or names i name
    → lists (take i names) name ≡ false
new_at names i name once lt at =
    neither_right (repeats_name (take i names)) (lists (take i names) name)
    (sym (repeats_last (take i names) name) ∙ (ap repeats_name (sym (more_names names i name lt at)) ∙ once_first names (i + 1) once))

-- each listed name stands just where one of these services has it
abbrev pub FindsEach : List (List ℕ) → List ChartState → List Supervised → Type 0
FindsEach names standing services = (name : List ℕ) → lists names name ≡ true
    → stands name standing ≡ list_any (λ s. bytes_eq name s.chart.name) services

-- one more name
pub one_added : (listing : List Entry) (names : List (List ℕ)) (i : ℕ) (name : List ℕ) (retained : List ChartState) (slots : List Supervised)
    (old mid new : Adding)
    → repeats_name names ≡ false → i < length names → name ≡ get_or names i name → FindsEach names (retained ++ charts_of old.added) slots
    → state_behind retained mid ≡ with_names listing (state_behind retained old) (take i names)
    → (stands name (retained ++ charts_of mid.added) ≡ list_any (λ s. bytes_eq name s.chart.name) slots
    → state_behind retained new ≡ with_name listing (state_behind retained mid) name)
    → state_behind retained new ≡ with_names listing (state_behind retained old) (take (i + 1) names)
one_added listing names i name retained slots old mid new once lt at finds so_far next =
    let here : stands name (retained ++ charts_of mid.added) ≡ list_any (λ s. bytes_eq name s.chart.name) slots =
    ap (λ (g : ScanState). stands name g.services) so_far
    ∙ (stands_before listing (state_behind retained old) (take i names) name (new_at names i name once lt at)
    ∙ finds name (listed_at names i name name lt at)) in
    next here
    ∙ (ap (λ g. with_name listing g name) so_far
    ∙ (sym (fold-append (with_name listing) (state_behind retained old) (take i names) (name ∷ []))
    ∙ ap (with_names listing (state_behind retained old)) (sym (more_names names i name lt at))))

-- what goes on twice goes on, and what grows twice grows
pub goes_on_twice : (services : List Supervised) (old mid new : Adding) → GoesOn services old mid → GoesOn services mid new
    → GoesOn services old new
goes_on_twice services old mid new a b =
    let al = a.later in let bl = b.later in
    record {
      order = b.order;
      agrees = λ h all. b.agrees h (a.agrees h all);
      later = omega (arith, al, bl);
      tallies = λ deaths before all. b.tallies deaths (λ k d lt. let below = before k d lt in omega (arith, below, al))
          (a.tallies deaths before all);
    }

pub grows_twice : (retained : ℕ) (old mid new : Adding) → Grows retained old mid → Grows retained mid new → Grows retained old new
grows_twice retained old mid new a b =
    let an = a.next in let bn = b.next in let ao = a.orders in let bo = b.orders in
    record { few = b.few; next = omega (arith, an, bn); orders = omega (arith, ao, bo) }
