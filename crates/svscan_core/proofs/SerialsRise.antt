-- The serials of the services rise, and the next one is above them all, before a step and after it.
use Rattle.std.proofs.Common.{◌≡◌, ℕ, ◌+◌, List, [], ◌∷◌, ◌++◌, Bool, true, false, ◌==◌, cond, refl, sym, ◌∙◌, ap, filter, arith}
use Rattle.std.specs.Prelude.{nat_lt, length, Option, Some, None}
use Rattle.std.specs.List.{list_all}
use Rattle.std.proofs.lemmas.Bool.Decides.{nat_tests}
use Rattle.std.proofs.lemmas.List.{map-append}
use Rattle.std.proofs.lemmas.List.Folds.{list_all-append}
use Rattle.deadlines.specs.Timers.{is_rising}
use Rattle.servicedir.specs.declared.config.Config.{Config}
use Rattle.supervise_core.specs.declared.chart_state.ChartState.{ChartState}
use Rattle.supervise_core.specs.declared.change.Change.{Change}
use Rattle.supervise_core.specs.ChartState.{Moved, new_service, no_move}
use Rattle.supervise_core.specs.Moves.{begin_move}
use Rattle.supervise_core.specs.Chart.{fire_move}
use Rattle.supervise_core.proofs.Identity.{KeepsIdentity, keeps_fire, keeps_changed, keeps_begin}
use Rattle.svscan_core.specs.declared.entry.Entry.{Entry}
use Rattle.svscan_core.specs.declared.entry.ScanOrder.{ScanOrder}
use Rattle.svscan_core.specs.Listing.{in_byte_order, names_in, listed_config}
use Rattle.svscan_core.specs.Moves.{services_after}
use Rattle.svscan_core.specs.Scan.{ScanState, after_look, after_looks, stays, stands, service_limit, with_service, with_new_name, with_name}
use Rattle.svscan_core.specs.Scan.{with_names}
use Rattle.svscan_core.specs.Sound.{IsNumbered}
use Rattle.svscan_core.specs.Table.{serials_of}
use Rattle.svscan_core.specs.Work.{Work, work_result, step_result, change_move_at, command_move}
use Rattle.svscan_core.specs.Work.Work.{do_nothing, change_one, apply_listing, command}
use Rattle.svscan_core.proofs.Truth.{both_left, both_right, both_of}
use Rattle.svscan_core.proofs.Names.{keeps_either, keeps_still, keeps_commanded, keeps_look}

-- numbers that rise up to one rise without it
pub rising_before : (xs : List ℕ) (n : ℕ) → is_rising (xs ++ n ∷ []) ≡ true → is_rising xs ≡ true
rising_before [] n h = refl
rising_before (x ∷ xs) n h =
    both_of _ (is_rising xs)
    (both_left (list_all (λ m. nat_lt x m) xs) _ (sym (list_all-append (λ m. nat_lt x m) xs (n ∷ [])) ∙ both_left _ (is_rising (xs ++ n ∷ [])) h))
    (rising_before xs n (both_right _ (is_rising (xs ++ n ∷ [])) h))

-- and they rise up to the next one
pub last_above : (x n : ℕ) (xs : List ℕ) → list_all (λ m. nat_lt x m) (xs ++ n ∷ []) ≡ true → nat_lt x n ≡ true
last_above x n [] h = both_left (nat_lt x n) true h
last_above x n (y ∷ xs) h = last_above x n xs (both_right (nat_lt x y) _ h)

next_above : (x n : ℕ) → nat_lt x n ≡ true → nat_lt x (n + 1) ≡ true
next_above x n h = grind (arith, nat_tests)

above_itself : (n : ℕ) → nat_lt n (n + 1) ≡ true
above_itself n = grind (arith, nat_tests)

pub rising_next : (xs : List ℕ) (n : ℕ) → is_rising (xs ++ n ∷ []) ≡ true → is_rising ((xs ++ n ∷ []) ++ (n + 1) ∷ []) ≡ true
rising_next [] n h = both_of _ true (both_of (nat_lt n (n + 1)) true (above_itself n) refl) refl
rising_next (x ∷ xs) n h =
    let all = both_left _ (is_rising (xs ++ n ∷ [])) h in
    both_of _ (is_rising ((xs ++ n ∷ []) ++ (n + 1) ∷ []))
    (list_all-append (λ m. nat_lt x m) (xs ++ n ∷ []) ((n + 1) ∷ [])
    ∙ both_of (list_all (λ m. nat_lt x m) (xs ++ n ∷ [])) _ all (both_of (nat_lt x (n + 1)) true (next_above x n (last_above x n xs all)) refl))
    (rising_next xs n (both_right _ (is_rising (xs ++ n ∷ [])) h))

-- fewer services rise too
all_left : (s : ℕ) (p : ChartState → Bool) (cs : List ChartState) (ns : List ℕ) → list_all (λ m. nat_lt s m) (serials_of cs ++ ns) ≡ true
    → list_all (λ m. nat_lt s m) (serials_of (filter p cs) ++ ns) ≡ true
all_left s p [] ns h = h
all_left s p (c ∷ cs) ns h = by (p c) (all_left s p cs ns (both_right (nat_lt s c.sid) _ h))
  where
    by : (b : Bool) → list_all (λ m. nat_lt s m) (serials_of (filter p cs) ++ ns) ≡ true
        → list_all (λ m. nat_lt s m) (serials_of (cond b (c ∷ filter p cs) (filter p cs)) ++ ns) ≡ true
    by true rest = both_of (nat_lt s c.sid) _ (both_left (nat_lt s c.sid) _ h) rest
    by false rest = rest

pub numbered_filtered : (p : ChartState → Bool) (next : ℕ) (cs : List ChartState) → IsNumbered next cs → IsNumbered next (filter p cs)
numbered_filtered p next [] h = h
numbered_filtered p next (c ∷ cs) h = by (p c) (numbered_filtered p next cs (both_right _ (is_rising (serials_of cs ++ next ∷ [])) h))
  where
    by : (b : Bool) → IsNumbered next (filter p cs) → IsNumbered next (cond b (c ∷ filter p cs) (filter p cs))
    by true rest = both_of _ (is_rising (serials_of (filter p cs) ++ next ∷ []))
        (all_left c.sid p cs (next ∷ []) (both_left _ (is_rising (serials_of cs ++ next ∷ [])) h)) rest
    by false rest = rest

-- a move that keeps each serial keeps the serials
serials_moved : (move : ChartState → Moved) → ((c : ChartState) → KeepsIdentity c (move c)) → (cs : List ChartState)
    → serials_of (services_after move cs) ≡ serials_of cs
serials_moved move keeps [] = refl
serials_moved move keeps (c ∷ cs) = λ i. (keeps c).sid i ∷ serials_moved move keeps cs i

pub fired_serials : (now : ℕ) (cs : List ChartState) → serials_of (services_after (fire_move now) cs) ≡ serials_of cs
fired_serials now cs = serials_moved (fire_move now) (keeps_fire now) cs

pub changed_serials : (sid : ℕ) (change : Change) (now : ℕ) (cs : List ChartState)
    → serials_of (services_after (change_move_at sid change now) cs) ≡ serials_of cs
changed_serials sid change now cs = serials_moved (change_move_at sid change now)
    (λ c. keeps_either (c.sid == sid) c _ _ (keeps_changed change now c) (keeps_still c)) cs

pub commanded_serials : (order : ScanOrder) (now : ℕ) (cs : List ChartState)
    → serials_of (services_after (command_move order now) cs) ≡ serials_of cs
commanded_serials order now cs = serials_moved (command_move order now) (keeps_commanded order now) cs

pub looked_serials : (listing : List Entry) (now : ℕ) (cs : List ChartState) → serials_of (after_looks listing now cs) ≡ serials_of cs
looked_serials listing now cs = serials_moved (λ c. no_move (after_look listing now c)) (keeps_look listing now) cs

-- the same serials are in the same order
pub same_serials : (next : ℕ) (cs ds : List ChartState) → serials_of ds ≡ serials_of cs → IsNumbered next cs → IsNumbered next ds
same_serials next cs ds e h = ap (λ ns. is_rising (ns ++ next ∷ [])) e ∙ h

pub fired_numbers : (now next : ℕ) (cs : List ChartState) → IsNumbered next cs → IsNumbered next (services_after (fire_move now) cs)
fired_numbers now next cs h = same_serials next cs _ (fired_serials now cs) h

-- new services get the next serials
either_grown : (b : Bool) (x y : ScanState) → IsNumbered x.next_sid x.services → IsNumbered y.next_sid y.services
    → IsNumbered (cond b x y).next_sid (cond b x y).services
either_grown true x y hx hy = hx
either_grown false x y hx hy = hy

numbered_added : (config : Config) (g : ScanState) (name : List ℕ) → IsNumbered g.next_sid g.services
    → IsNumbered (g.next_sid + 1) (with_service config g name).services
numbered_added config g name h =
    ap (λ ns. is_rising (ns ++ (g.next_sid + 1) ∷ []))
    (map-append (λ (c : ChartState). c.sid) g.services ((begin_move (new_service g.next_sid name config)).chart ∷ [])
    ∙ ap (λ n. serials_of g.services ++ n ∷ []) (keeps_begin g.next_sid name config).sid)
    ∙ rising_next (serials_of g.services) g.next_sid h

numbered_new : (found : Option Config) (g : ScanState) (name : List ℕ) → IsNumbered g.next_sid g.services
    → IsNumbered (with_new_name found g name).next_sid (with_new_name found g name).services
numbered_new None g name h = h
numbered_new (Some config) g name h =
    either_grown (nat_lt (length g.services) service_limit) (with_service config g name) _ (numbered_added config g name h) h

numbered_all : (listing : List Entry) (g : ScanState) (names : List (List ℕ)) → IsNumbered g.next_sid g.services
    → IsNumbered (with_names listing g names).next_sid (with_names listing g names).services
numbered_all listing g [] h = h
numbered_all listing g (name ∷ names) h =
    numbered_all listing (with_name listing g name) names
    (either_grown (stands name g.services) g _ h (numbered_new (listed_config listing name) g name h))

-- work keeps the serials in order
pub work_numbers : (work : Work) (now : ℕ) (cs : List ChartState) (next : ℕ) → IsNumbered next cs
    → IsNumbered (work_result work now cs next).next_sid (work_result work now cs next).services
work_numbers do_nothing now cs next h = h
work_numbers (change_one sid change) now cs next h = same_serials next cs _ (changed_serials sid change now cs) h
work_numbers (command order) now cs next h = same_serials next cs _ (commanded_serials order now cs) h
work_numbers (apply_listing listing) now cs next h =
    numbered_all listing _ (in_byte_order (names_in listing))
    (numbered_filtered stays next (after_looks listing now cs)
    (same_serials next cs (after_looks listing now cs) (looked_serials listing now cs) h))

pub step_numbers : (work : Work) (now : ℕ) (cs : List ChartState) (next : ℕ) → IsNumbered next cs
    → IsNumbered (step_result work now cs next).next_sid (step_result work now cs next).services
step_numbers work now cs next h = work_numbers work now (services_after (fire_move now) cs) next (fired_numbers now next cs h)
