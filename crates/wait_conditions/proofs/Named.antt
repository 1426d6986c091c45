-- A waiter that is looked for, or taken out, by its serial.
use Rattle.std.proofs.Common.{◌≡◌, ◌==◌, ◌<◌, ◌≤◌, not, ℕ, List, [], ◌∷◌, Bool, true, false, Option, None, Some, is_some, cond, length, map, filter, find, refl}
use Rattle.std.proofs.Common.{sym, ap, ◌∙◌, option_map}
use Rattle.std.proofs.lemmas.List.{length-map}
use Rattle.std.proofs.lemmas.List.Elements.{All-filter}
use Rattle.s6_events.proofs.Rising.{rising_left}
use Rattle.s6_events.specs.declared.moment.Moment.{Moment}
use Rattle.wait_conditions.specs.declared.waiter.Waiter.{Waiter}
use Rattle.wait_conditions.specs.States.{state_in}
use Rattle.wait_conditions.specs.Kept.{waiter_view, is_other, standing_stored, standing_kept}
use Rattle.wait_conditions.specs.Stands.{WaitsShown, stored_waiter, WaitsStandFor}
use Rattle.wait_conditions.specs.WaitsPlans.{CancelsWaiter}
use Rattle.wait_conditions.specs.Watch.{WrittenWaiter, Watch, is_waiter_of, waiter_state, state_named, after_cancel}

kept_inside : {X Y : Type 0} (f : X → Y) (b : Bool) (x : X) (us : List X) → cond b (f x ∷ map f us) (map f us) ≡ map f (cond b (x ∷ us) us)
kept_inside f true x us = refl
kept_inside f false x us = refl

-- a list of which each element is changed, and then some are left out
filter-map : {X Y : Type 0} (f : X → Y) (p : Y → Bool) (q : X → Bool) → ((x : X) → p (f x) ≡ q x) → (xs : List X)
    → filter p (map f xs) ≡ map f (filter q xs)
filter-map f p q same [] = refl
filter-map f p q same (x ∷ xs) =
    ap (λ b. cond b (f x ∷ filter p (map f xs)) (filter p (map f xs))) (same x)
    ∙ (ap (λ ys. cond (q x) (f x ∷ ys) ys) (filter-map f p q same xs)
    ∙ kept_inside f (q x) x (filter q xs))

pub stored_left : (id : ℕ) (ws : List Waiter) → filter (is_other id) (map waiter_view ws) ≡ map waiter_view (filter (λ w. not (w.id == id)) ws)
stored_left id ws = filter-map waiter_view (is_other id) (λ w. not (w.id == id)) (λ w. refl) ws

written_left : (id : ℕ) (h : List Moment) (ps : List WrittenWaiter)
    → filter (is_other id) (map (stored_waiter h) ps) ≡ map (stored_waiter h) (filter (λ p. not (is_waiter_of id p)) ps)
written_left id h ps = filter-map (stored_waiter h) (is_other id) (λ p. not (is_waiter_of id p)) (λ p. refl) ps

pub cancels_after : (s new : WaitsShown) (id : ℕ) → CancelsWaiter s new id → (w : Watch) → WaitsStandFor s w → WaitsStandFor new (after_cancel w id)
cancels_after s new id c w st = record {
  count = st.count ∙ sym c.count;
  states = λ sid. ap (λ runs. state_in runs sid) c.states ∙ st.states sid;
  waiters = c.waiters ∙ (ap (filter (is_other id)) st.waiters ∙ written_left id w.history w.waiters);
  next = st.next ∙ sym c.next;
  placed = All-filter (λ p. not (is_waiter_of id p)) (λ p. p.place ≤ length w.history) w.waiters st.placed;
  rising = rising_left (λ p. p.id) (λ p. not (is_waiter_of id p)) w.waiters st.rising;
  below = All-filter (λ p. not (is_waiter_of id p)) (λ p. p.id < w.next) w.waiters st.below;
}

pub standing_seen : (id : ℕ) (ws : List Waiter) → standing_stored id ws ≡ standing_kept id (map waiter_view ws)
standing_seen id [] = refl
standing_seen id (w ∷ ws) = ap (λ o. cond (w.id == id) (Some w.standing) o) (standing_seen id ws)

found_at : (h : List Moment) (b : Bool) (p : WrittenWaiter) (o : Option WrittenWaiter)
    → cond b (Some (waiter_state h p)) (option_map (waiter_state h) o) ≡ option_map (waiter_state h) (cond b (Some p) o)
found_at h true p o = refl
found_at h false p o = refl

standing_written : (id : ℕ) (h : List Moment) (ps : List WrittenWaiter)
    → standing_kept id (map (stored_waiter h) ps) ≡ option_map (waiter_state h) (find (is_waiter_of id) ps)
standing_written id h [] = refl
standing_written id h (p ∷ ps) =
    ap (λ o. cond (p.id == id) (Some (waiter_state h p)) o) (standing_written id h ps)
    ∙ found_at h (p.id == id) p (find (is_waiter_of id) ps)

pub result_is : (s : WaitsShown) (id : ℕ) (w : Watch) → WaitsStandFor s w → standing_kept id s.waiters ≡ state_named w id
result_is s id w st = ap (standing_kept id) st.waiters ∙ standing_written id w.history w.waiters

pub count_is : (s : WaitsShown) (w : Watch) → WaitsStandFor s w → length s.waiters ≡ length w.waiters
count_is s w st = ap length st.waiters ∙ length-map w.waiters (stored_waiter w.history)

-- a waiter stands, whatever is known of it
pub stands_still : (id : ℕ) (h h' : List Moment) (o : Option WrittenWaiter)
    → is_some (option_map (waiter_state h) o) ≡ is_some (option_map (waiter_state h') o)
stands_still id h h' None = refl
stands_still id h h' (Some p) = refl
