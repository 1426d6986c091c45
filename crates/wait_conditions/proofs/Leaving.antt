-- Waiters that moments don't touch.
use Rattle.std.proofs.Common.{◌≡◌, ◌==◌, ℕ, List, [], ◌∷◌, Bool, true, false, ◌&&◌, ◌||◌, None, Option, map, filter, refl, sym, ap, ◌∙◌, subst, option_map, if◌then◌else◌}
use Rattle.std.specs.List.{filter_map, cons_option, list_any}
use Rattle.s6_events.specs.declared.condition.Condition.{Condition}
use Rattle.s6_events.specs.declared.mark.Mark.{Mark}
use Rattle.s6_events.specs.declared.moment.Moment.{Moment}
use Rattle.s6_events.specs.Newest.{mark_of}
use Rattle.std.specs.Prelude.{Some}
use Rattle.wait_conditions.specs.declared.verdict.Verdict.{Verdict}
use Rattle.wait_conditions.specs.declared.verdict.WaitState.{WaitState}
use Rattle.wait_conditions.specs.declared.verdict.WaitState.TheVariants.{Waiting, Released}
use Rattle.wait_conditions.specs.declared.watched_service.WatchedService.{WatchedService}
use Rattle.wait_conditions.specs.Kept.{StoredWaiter, is_waiting, still_waits, concerns, late_at, watched_then, watched_while, judged, with_moment, with_moment_while, with_moments, release_seen}
use Rattle.wait_conditions.specs.Planning.{AreReleasedAlike}
use Rattle.wait_conditions.specs.Watch.{new_release}
use Rattle.wait_conditions.specs.Watched.{watched_after}
use Rattle.wait_conditions.specs.Watchers.{touches, touched_by, watches}
use Rattle.wait_conditions.proofs.Filtered.{filter_yes, filter_no}
use Rattle.wait_conditions.proofs.Oldest.{waited_before}
use Rattle.wait_conditions.proofs.Watched.{first_off, rest_off}

stays_while : (s : WaitState) (m : Moment) (k : StoredWaiter) → (is_waiting s && concerns m k) ≡ false → with_moment_while s m k ≡ k
stays_while Waiting m k h = ap (λ b. if b then judged (late_at k.deadline m) (record k { watched = watched_then m k }) else k) h
stays_while (Released v) m k h = refl

stays_put : (m : Moment) (k : StoredWaiter) → touches m k ≡ false → with_moment m k ≡ k
stays_put m k h = stays_while k.standing m k h

none_new : (s : WaitState) → new_release s s ≡ None
none_new Waiting = refl
none_new (Released v) = refl

not_released : (m : Moment) (k : StoredWaiter) → touches m k ≡ false → release_seen m k ≡ None
not_released m k h =
    ap (λ (j : StoredWaiter). option_map (λ (v : Verdict). (k.id, v)) (new_release k.standing j.standing)) (stays_put m k h)
    ∙ ap (option_map (λ (v : Verdict). (k.id, v))) (none_new k.standing)

pub stays_all : (ms : List Moment) (k : StoredWaiter) → touched_by ms k ≡ false → with_moments ms k ≡ k
stays_all [] k h = refl
stays_all (m ∷ ms) k h =
    ap (with_moments ms) (stays_put m k (first_off (touches m k) (touched_by ms k) h))
    ∙ stays_all ms k (rest_off (touches m k) (touched_by ms k) h)

-- lists of waiters that are released alike: one more in both, or one that isn't touched in the first alone
alike_both : (ms : List Moment) (ks js : List StoredWaiter) (k : StoredWaiter) → AreReleasedAlike ms ks js → AreReleasedAlike ms (k ∷ ks) (k ∷ js)
alike_both [] ks js k a = tt
alike_both (m ∷ ms) ks js k a = (
  ap (cons_option (release_seen m k)) a.0,
  alike_both ms (map (with_moment m) ks) (map (with_moment m) js) (with_moment m k) a.1,
)

alike_left : (ms : List Moment) (ks js : List StoredWaiter) (k : StoredWaiter) → touched_by ms k ≡ false → AreReleasedAlike ms ks js
    → AreReleasedAlike ms (k ∷ ks) js
alike_left [] ks js k h a = tt
alike_left (m ∷ ms) ks js k h a =
    let now : touches m k ≡ false = first_off (touches m k) (touched_by ms k) h in (
      ap (λ o. cons_option o (filter_map (release_seen m) ks)) (not_released m k now) ∙ a.0,
      subst (λ j. AreReleasedAlike ms (j ∷ map (with_moment m) ks) (map (with_moment m) js)) (sym (stays_put m k now))
          (alike_left ms (map (with_moment m) ks) (map (with_moment m) js) k (rest_off (touches m k) (touched_by ms k) h) a.1),
    )

-- those that are touched are released as all are
pub alike_touched : (ms : List Moment) (ks : List StoredWaiter) → AreReleasedAlike ms ks (filter (touched_by ms) ks)
alike_touched ms [] = none ms
  where
    none : (ms : List Moment) → AreReleasedAlike ms [] []
    none [] = tt
    none (m ∷ ms) = (refl, none ms)
alike_touched ms (k ∷ ks) = by (touched_by ms k) refl (alike_touched ms ks)
  where
    by : (b : Bool) → touched_by ms k ≡ b → AreReleasedAlike ms ks (filter (touched_by ms) ks)
        → AreReleasedAlike ms (k ∷ ks) (filter (touched_by ms) (k ∷ ks))
    by true e a = subst (AreReleasedAlike ms (k ∷ ks)) (sym (filter_yes (touched_by ms) k ks e)) (alike_both ms ks (filter (touched_by ms) ks) k a)
    by false e a = subst (AreReleasedAlike ms (k ∷ ks)) (sym (filter_no (touched_by ms) k ks e)) (alike_left ms ks (filter (touched_by ms) ks) k e a)

-- a waiter that waits on watches what it watched
same_sid : (c : Condition) (o : Option Mark) (w : WatchedService) → (watched_after c o w).sid ≡ w.sid
same_sid c None w = refl
same_sid c (Some mark) w = refl

same_sids : (c : Condition) (m : Moment) (sid : ℕ) (ws : List WatchedService)
    → list_any (λ (w : WatchedService). w.sid == sid) (map (λ w. watched_after c (mark_of w.sid m) w) ws)
    ≡ list_any (λ (w : WatchedService). w.sid == sid) ws
same_sids c m sid [] = refl
same_sids c m sid (w ∷ ws) =
    ap (λ s. (s == sid) || list_any (λ (v : WatchedService). v.sid == sid) (map (λ v. watched_after c (mark_of v.sid m) v) ws))
    (same_sid c (mark_of w.sid m) w)
    ∙ ap (λ b. (w.sid == sid) || b) (same_sids c m sid ws)

judged_watches : (s : WaitState) (m : Moment) (sid : ℕ) (k : StoredWaiter) → is_waiting s ≡ true
    → (is_waiting s && list_any (λ (w : WatchedService). w.sid == sid) (watched_while s (watched_then m k)))
    ≡ list_any (λ (w : WatchedService). w.sid == sid) k.watched
judged_watches Waiting m sid k h = same_sids k.condition m sid k.watched
judged_watches (Released v) m sid k h = cc

watches_if : (b late : Bool) (m : Moment) (sid : ℕ) (k : StoredWaiter) → still_waits k ≡ true
    → still_waits (if b then judged late (record k { watched = watched_then m k }) else k) ≡ true
    → watches sid (if b then judged late (record k { watched = watched_then m k }) else k) ≡ watches sid k
watches_if true late m sid k w h =
    judged_watches (judged late (record k { watched = watched_then m k })).standing m sid k h
    ∙ sym (ap (λ b. b && list_any (λ (v : WatchedService). v.sid == sid) k.watched) w)
watches_if false late m sid k w h = refl

watches_while : (s : WaitState) (m : Moment) (sid : ℕ) (k : StoredWaiter) → k.standing ≡ s → still_waits (with_moment_while s m k) ≡ true
    → watches sid (with_moment_while s m k) ≡ watches sid k
watches_while Waiting m sid k e h = watches_if (concerns m k) (late_at k.deadline m) m sid k (ap is_waiting e) h
watches_while (Released v) m sid k e h = refl

pub watches_on : (ms : List Moment) (sid : ℕ) (k : StoredWaiter) → still_waits (with_moments ms k) ≡ true
    → watches sid (with_moments ms k) ≡ watches sid k
watches_on [] sid k h = refl
watches_on (m ∷ ms) sid k h =
    watches_on ms sid (with_moment m k) h ∙ watches_while k.standing m sid k refl (waited_before ms (with_moment m k) h)

-- nor do moments change a serial or a deadline
id_if : (b late : Bool) (m : Moment) (k : StoredWaiter)
    → ((if b then judged late (record k { watched = watched_then m k }) else k).id ≡ k.id)
    × ((if b then judged late (record k { watched = watched_then m k }) else k).deadline ≡ k.deadline)
id_if true late m k = (refl, refl)
id_if false late m k = (refl, refl)

id_while : (s : WaitState) (m : Moment) (k : StoredWaiter) → ((with_moment_while s m k).id ≡ k.id) × ((with_moment_while s m k).deadline ≡ k.deadline)
id_while Waiting m k = id_if (concerns m k) (late_at k.deadline m) m k
id_while (Released v) m k = (refl, refl)

pub id_stays : (ms : List Moment) (k : StoredWaiter) → (with_moments ms k).id ≡ k.id
id_stays [] k = refl
id_stays (m ∷ ms) k = id_stays ms (with_moment m k) ∙ (id_while k.standing m k).0

pub deadline_stays : (ms : List Moment) (k : StoredWaiter) → (with_moments ms k).deadline ≡ k.deadline
deadline_stays [] k = refl
deadline_stays (m ∷ ms) k = deadline_stays ms (with_moment m k) ∙ (id_while k.standing m k).1

pub none_by_nothing : (ks : List StoredWaiter) → filter (touched_by []) ks ≡ []
none_by_nothing [] = refl
none_by_nothing (k ∷ ks) = none_by_nothing ks
