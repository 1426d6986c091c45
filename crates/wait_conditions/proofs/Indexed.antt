-- The list of watchers: its part for one service, one more watcher, and a waiter that leaves.
use Rattle.std.proofs.Common.{◌≡◌, ◌<◌, ◌≤◌, ℕ, List, [], ◌∷◌, ◌++◌, Bool, true, false, ◌&&◌, ◌||◌, not, ◌==◌, cond, length, take, drop, filter, map, get_or}
use Rattle.std.proofs.Common.{refl, sym, ap, subst, ◌∙◌, arith, zero, suc, append-nil}
use Rattle.std.specs.Prelude.{nat_lt, nat_le, if◌then◌else◌}
use Rattle.std.specs.List.{insert, list_any}
use Rattle.std.specs.List.Sorted.{IsNonDecreasingBy, IsPartitionPoint}
use Rattle.std.proofs.lemmas.Bool.Decides.{nat_tests}
use Rattle.std.proofs.lemmas.List.{map-append, take-append-drop}
use Rattle.std.proofs.lemmas.List.Elements.{filter-append}
use Rattle.std.proofs.lemmas.List.Sorted.{IsNonDecreasingBy-insert}
use Rattle.wait_conditions.specs.declared.watchers.Watcher.{Watcher}
use Rattle.wait_conditions.specs.declared.watched_service.WatchedService.{WatchedService}
use Rattle.wait_conditions.specs.Kept.{StoredWaiter, still_waits}
use Rattle.wait_conditions.specs.Refusal.{is_named_in, repeats_serial}
use Rattle.wait_conditions.specs.Watchers.{serials_of, serials_where, watches}
use Rattle.wait_conditions.proofs.Filtered.{filter_yes, filter_no, filter_twice, none_pass, take_passes, drop_passes}
use Rattle.wait_conditions.proofs.Watched.{first_off, rest_off}

-- up to a service, and from it on
abbrev pub up_to : ℕ → Watcher → Bool
up_to sid w = nat_le w.sid sid

abbrev pub below : ℕ → Watcher → Bool
below sid w = nat_lt w.sid sid

one_service : (a sid : ℕ) → (a == sid) ≡ (nat_le a sid && not (nat_lt a sid))
one_service a sid = grind (arith, nat_tests)

-- what stands between the two places is the service's part
pub part_is : (sid end start : ℕ) (ws : List Watcher) → end ≤ length ws
    → IsPartitionPoint (λ w. up_to sid w ≡ true) (λ w. up_to sid w ≡ false) ws end
    → start ≤ length (take end ws)
    → IsPartitionPoint (λ w. below sid w ≡ true) (λ w. below sid w ≡ false) (take end ws) start
    → map (λ (w : Watcher). w.waiter) (drop start (take end ws)) ≡ serials_of sid ws
part_is sid end start ws le parted le' parted' =
    ap (map (λ (w : Watcher). w.waiter))
    (drop_passes (λ w. not (below sid w)) (take end ws) start le'
    (λ k d a m. ap not (parted'.0 k d a m)) (λ k d a m. ap not (parted'.1 k d a m))
    ∙ (ap (filter (λ w. not (below sid w))) (take_passes (up_to sid) ws end le parted.0 parted.1)
    ∙ filter_twice (up_to sid) (λ w. not (below sid w)) (λ w. w.sid == sid) (λ w. one_service w.sid sid) ws))

-- one more watcher at the end of its service's part
not_same : (a sid : ℕ) → nat_le a sid ≡ false → (a == sid) ≡ false
not_same a sid h = grind (arith, nat_tests)

none_after : (sid place : ℕ) (ws : List Watcher) → ((k : ℕ) (d : Watcher) → place ≤ k → k < length ws → up_to sid (get_or ws k d) ≡ false)
    → filter (λ w. w.sid == sid) (drop place ws) ≡ []
none_after sid zero ws h = none_pass (λ w. w.sid == sid) ws (λ k d l. not_same (get_or ws k d).sid sid (h k d (omega arith) l))
none_after sid (suc place) [] h = refl
none_after sid (suc place) (w ∷ ws) h = none_after sid place ws (λ k d a l. h (suc k) d (omega (arith, a)) (omega (arith, l)))

equal_from : (a b : ℕ) → (a == b) ≡ true → a ≡ b
equal_from a b h = grind (arith, nat_tests)

put_apart : {X : Type 0} (p : X → Bool) (place : ℕ) (x : X) (ws : List X)
    → filter p (insert ws place x) ≡ filter p (take place ws) ++ filter p (x ∷ drop place ws)
put_apart p place x ws = filter-append p (take place ws) (x ∷ drop place ws)

put_in_two : {X : Type 0} (p : X → Bool) (place : ℕ) (ws : List X) → filter p (take place ws) ++ filter p (drop place ws) ≡ filter p ws
put_in_two p place ws = sym (filter-append p (take place ws) (drop place ws)) ∙ ap (filter p) (take-append-drop place ws)

pub put_is : (sid id other place : ℕ) (ws : List Watcher)
    → ((k : ℕ) (d : Watcher) → place ≤ k → k < length ws → up_to sid (get_or ws k d) ≡ false)
    → serials_of other (insert ws place (record { sid = sid; waiter = id }))
    ≡ serials_of other ws ++ (if sid == other then id ∷ [] else [])
put_is sid id other place ws h = by (sid == other) refl
  where
    by : (b : Bool) → (sid == other) ≡ b
        → serials_of other (insert ws place (record { sid = sid; waiter = id })) ≡ serials_of other ws ++ (if b then id ∷ [] else [])
    by true e =
        let same : sid ≡ other = equal_from sid other e in
        let none : filter (λ (w : Watcher). w.sid == other) (drop place ws) ≡ [] =
        subst (λ s. filter (λ (w : Watcher). w.sid == s) (drop place ws) ≡ []) same (none_after sid place ws h) in
        ap (map (λ (w : Watcher). w.waiter))
        (put_apart (λ w. w.sid == other) place (record { sid = sid; waiter = id }) ws
        ∙ (ap (λ ys. filter (λ (w : Watcher). w.sid == other) (take place ws) ++ ys)
        (filter_yes (λ (w : Watcher). w.sid == other) (record { sid = sid; waiter = id }) (drop place ws) e
        ∙ ap (λ ys. record { sid = sid; waiter = id } ∷ ys) none)
        ∙ ap (λ ys. ys ++ record { sid = sid; waiter = id } ∷ [])
        (sym (append-nil (filter (λ (w : Watcher). w.sid == other) (take place ws)))
        ∙ (ap (λ ys. filter (λ (w : Watcher). w.sid == other) (take place ws) ++ ys) (sym none)
        ∙ put_in_two (λ (w : Watcher). w.sid == other) place ws))))
        ∙ map-append (λ (w : Watcher). w.waiter) (filter (λ (w : Watcher). w.sid == other) ws) (record { sid = sid; waiter = id } ∷ [])
    by false e =
        ap (map (λ (w : Watcher). w.waiter))
        (put_apart (λ w. w.sid == other) place (record { sid = sid; waiter = id }) ws
        ∙ (ap (λ ys. filter (λ (w : Watcher). w.sid == other) (take place ws) ++ ys)
        (filter_no (λ (w : Watcher). w.sid == other) (record { sid = sid; waiter = id }) (drop place ws) e)
        ∙ put_in_two (λ (w : Watcher). w.sid == other) place ws))
        ∙ sym (append-nil (serials_of other ws))

low_from : (a sid : ℕ) → nat_le a sid ≡ true → a ≤ sid
low_from a sid h = grind (arith, nat_tests)

high_from : (a sid : ℕ) → nat_le a sid ≡ false → sid ≤ a
high_from a sid h = grind (arith, nat_tests)

pub put_in_order : (sid id place : ℕ) (ws : List Watcher) → IsNonDecreasingBy (λ (w : Watcher). w.sid) ws → place ≤ length ws
    → IsPartitionPoint (λ w. up_to sid w ≡ true) (λ w. up_to sid w ≡ false) ws place
    → IsNonDecreasingBy (λ (w : Watcher). w.sid) (insert ws place (record { sid = sid; waiter = id }))
put_in_order sid id place ws up le parted =
    IsNonDecreasingBy-insert (λ (w : Watcher). w.sid) ws place (record { sid = sid; waiter = id }) up le
    (λ k d l. low_from (get_or ws k d).sid sid (parted.0 k d (omega arith) l))
    (λ k d a l. high_from (get_or ws k d).sid sid (parted.1 k d a l))

-- a waiter leaves
pub left_is : (sid id : ℕ) (ws : List Watcher)
    → serials_of sid (filter (λ (w : Watcher). not (w.waiter == id)) ws) ≡ filter (λ i. not (i == id)) (serials_of sid ws)
left_is sid id [] = refl
left_is sid id (w ∷ ws) = by (w.sid == sid) (w.waiter == id) refl refl (left_is sid id ws)
  where
    by : (b c : Bool) → (w.sid == sid) ≡ b → (w.waiter == id) ≡ c
        → serials_of sid (filter (λ (v : Watcher). not (v.waiter == id)) ws) ≡ filter (λ i. not (i == id)) (serials_of sid ws)
        → serials_of sid (filter (λ (v : Watcher). not (v.waiter == id)) (w ∷ ws)) ≡ filter (λ i. not (i == id)) (serials_of sid (w ∷ ws))
    by true true e f rest =
        ap (serials_of sid) (filter_no (λ (v : Watcher). not (v.waiter == id)) w ws (ap not f))
        ∙ (rest
        ∙ sym (ap (λ ys. filter (λ i. not (i == id)) (map (λ (v : Watcher). v.waiter) ys)) (filter_yes (λ (v : Watcher). v.sid == sid) w ws e)
        ∙ filter_no (λ i. not (i == id)) w.waiter (serials_of sid ws) (ap not f)))
    by true false e f rest =
        ap (serials_of sid) (filter_yes (λ (v : Watcher). not (v.waiter == id)) w ws (ap not f))
        ∙ (ap (map (λ (v : Watcher). v.waiter)) (filter_yes (λ (v : Watcher). v.sid == sid) w (filter (λ (v : Watcher). not (v.waiter == id)) ws) e)
        ∙ (ap (λ ys. w.waiter ∷ ys) rest
        ∙ sym (ap (λ ys. filter (λ i. not (i == id)) (map (λ (v : Watcher). v.waiter) ys)) (filter_yes (λ (v : Watcher). v.sid == sid) w ws e)
        ∙ filter_yes (λ i. not (i == id)) w.waiter (serials_of sid ws) (ap not f))))
    by false true e f rest =
        ap (serials_of sid) (filter_no (λ (v : Watcher). not (v.waiter == id)) w ws (ap not f))
        ∙ (rest ∙ sym (ap (λ ys. filter (λ i. not (i == id)) (map (λ (v : Watcher). v.waiter) ys))
        (filter_no (λ (v : Watcher). v.sid == sid) w ws e)))
    by false false e f rest =
        ap (serials_of sid) (filter_yes (λ (v : Watcher). not (v.waiter == id)) w ws (ap not f))
        ∙ (ap (map (λ (v : Watcher). v.waiter)) (filter_no (λ (v : Watcher). v.sid == sid) w (filter (λ (v : Watcher). not (v.waiter == id)) ws) e)
        ∙ (rest ∙ sym (ap (λ ys. filter (λ i. not (i == id)) (map (λ (v : Watcher). v.waiter) ys))
        (filter_no (λ (v : Watcher). v.sid == sid) w ws e))))

-- the serial of a waiter, where one of these services is this one
abbrev pub named : ℕ → ℕ → List WatchedService → List ℕ
named id sid vs = if list_any (λ v. v.sid == sid) vs then id ∷ [] else []

pub named_is : (sid : ℕ) (k : StoredWaiter) → still_waits k ≡ true → named k.id sid k.watched ≡ serials_where (watches sid) (k ∷ [])
named_is sid k waits = by (list_any (λ (v : WatchedService). v.sid == sid) k.watched)
    ∙ sym (ap (λ b. map (λ (j : StoredWaiter). j.id) (cond (b && list_any (λ (v : WatchedService). v.sid == sid) k.watched) (k ∷ []) [])) waits)
  where
    by : (b : Bool) → (if b then k.id ∷ [] else []) ≡ map (λ (j : StoredWaiter). j.id) (cond b (k ∷ []) [])
    by true = refl
    by false = refl

pub none_named : (sid : ℕ) (k : StoredWaiter) → still_waits k ≡ false → serials_where (watches sid) (k ∷ []) ≡ []
none_named sid k waits = ap (λ b. map (λ (j : StoredWaiter). j.id)
    (cond (b && list_any (λ (v : WatchedService). v.sid == sid) k.watched) (k ∷ []) [])) waits

-- one service after the other, each of another serial
not_again : (sid : ℕ) (vs : List WatchedService) → is_named_in (map (λ (v : WatchedService). v.sid) vs) sid ≡ false
    → list_any (λ (v : WatchedService). v.sid == sid) vs ≡ false
not_again sid [] h = refl
not_again sid (v ∷ vs) h =
    ap (λ b. b || list_any (λ (u : WatchedService). u.sid == sid) vs)
    (first_off (v.sid == sid) (is_named_in (map (λ (u : WatchedService). u.sid) vs) sid) h)
    ∙ not_again sid vs (rest_off (v.sid == sid) (is_named_in (map (λ (u : WatchedService). u.sid) vs) sid) h)

pub named_more : (id sid : ℕ) (v : WatchedService) (vs : List WatchedService)
    → repeats_serial (map (λ (u : WatchedService). u.sid) (v ∷ vs)) ≡ false
    → (if v.sid == sid then id ∷ [] else []) ++ named id sid vs ≡ named id sid (v ∷ vs)
named_more id sid v vs apart = by (v.sid == sid) refl
  where
    by : (b : Bool) → (v.sid == sid) ≡ b
        → (if b then id ∷ [] else []) ++ named id sid vs ≡ (if b || list_any (λ (u : WatchedService). u.sid == sid) vs then id ∷ [] else [])
    by true e =
        let once : list_any (λ (u : WatchedService). u.sid == sid) vs ≡ false =
        subst (λ s. list_any (λ (u : WatchedService). u.sid == s) vs ≡ false) (equal_from v.sid sid e)
        (not_again v.sid vs (first_off (is_named_in (map (λ (u : WatchedService). u.sid) vs) v.sid)
        (repeats_serial (map (λ (u : WatchedService). u.sid) vs)) apart)) in
        ap (λ b. id ∷ (if b then id ∷ [] else [])) once
    by false e = refl

pub apart_after : (v : WatchedService) (vs : List WatchedService) → repeats_serial (map (λ (u : WatchedService). u.sid) (v ∷ vs)) ≡ false
    → repeats_serial (map (λ (u : WatchedService). u.sid) vs) ≡ false
apart_after v vs h = rest_off (is_named_in (map (λ (u : WatchedService). u.sid) vs) v.sid) (repeats_serial (map (λ (u : WatchedService). u.sid) vs)) h
