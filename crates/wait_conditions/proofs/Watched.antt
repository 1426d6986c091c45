-- One more moment changes what a waiter knows of a service by its mark alone.
use Rattle.std.proofs.Common.{◌≡◌, ℕ, List, [], ◌∷◌, ◌++◌, Option, Some, None, Bool, true, false, ◌||◌, refl, sym, ap, ◌∙◌, append_assoc, map, arith, if◌then◌else◌}
use Rattle.std.specs.Prelude.{◌==◌}
use Rattle.std.specs.List.{list_any}
use Rattle.std.proofs.lemmas.Bool.Decides.{nat_tests}
use Rattle.s6_events.specs.declared.mark.Mark.{Mark}
use Rattle.s6_events.specs.declared.moment.Moment.{Moment}
use Rattle.s6_events.specs.declared.moment.Moment.TheVariants.{Clock, Event}
use Rattle.s6_events.specs.declared.condition.Condition.{Condition}
use Rattle.s6_events.specs.Newest.{mark_of}
use Rattle.wait_conditions.specs.declared.supervisor_state.SupervisorState.{SupervisorState}
use Rattle.wait_conditions.specs.declared.supervisor_state.SinceState.{SinceState}
use Rattle.wait_conditions.specs.declared.watched_service.WatchedService.{WatchedService}
use Rattle.wait_conditions.specs.Kept.{StoredWaiter, concerns, watched_then, late_at}
use Rattle.wait_conditions.specs.SupervisorState.{state_of, since_of, state_after, since_after}
use Rattle.wait_conditions.specs.Watched.{watched_as, watched_over, watched_after}
use Rattle.wait_conditions.proofs.Pushed.{state_of-push, since_of-push}

by_mark : (c : Condition) (sid : ℕ) (st st' : SupervisorState) (si si' : SinceState) (o : Option Mark) → st' ≡ state_after o st
    → si' ≡ since_after o si → watched_as c sid st' si' ≡ watched_after c o (watched_as c sid st si)
by_mark c sid st st' si si' None e f = ap (λ s. watched_as c sid s si') e ∙ ap (λ s. watched_as c sid st s) f
by_mark c sid st st' si si' (Some mark) e f =
    ap (λ s. watched_as c sid s si') e ∙ ap (λ s. watched_as c sid (state_after (Some mark) st) s) f

pub watched_over-push : (c : Condition) (past since : List Moment) (m : Moment) (sid : ℕ)
    → watched_over c past (since ++ m ∷ []) sid ≡ watched_after c (mark_of sid m) (watched_over c past since sid)
watched_over-push c past since m sid =
    ap (λ ms. watched_as c sid (state_of sid ms) (since_of sid (since ++ m ∷ []))) (sym (append_assoc past since (m ∷ [])))
    ∙ by_mark c sid (state_of sid (past ++ since)) (state_of sid ((past ++ since) ++ m ∷ [])) (since_of sid since)
    (since_of sid (since ++ m ∷ [])) (mark_of sid m) (state_of-push sid (past ++ since) m) (since_of-push sid since m)

pub all_watched-push : (c : Condition) (past since : List Moment) (m : Moment) (sids : List ℕ)
    → map (watched_over c past (since ++ m ∷ [])) sids
    ≡ map (λ w. watched_after c (mark_of w.sid m) w) (map (watched_over c past since) sids)
all_watched-push c past since m [] = refl
all_watched-push c past since m (sid ∷ sids) =
    ap (λ w. w ∷ map (watched_over c past (since ++ m ∷ [])) sids) (watched_over-push c past since m sid)
    ∙ ap (λ ws. watched_after c (mark_of sid m) (watched_over c past since sid) ∷ ws) (all_watched-push c past since m sids)

-- a clock reading is no mark
unmarked : (c : Condition) (at : ℕ) (ws : List WatchedService) → map (λ w. watched_after c (mark_of w.sid (Clock at)) w) ws ≡ ws
unmarked c at [] = refl
unmarked c at (w ∷ ws) = ap (λ vs. w ∷ vs) (unmarked c at ws)

pub first_off : (a b : Bool) → (a || b) ≡ false → a ≡ false
first_off true b h = h
first_off false b h = refl

pub rest_off : (a b : Bool) → (a || b) ≡ false → b ≡ false
rest_off true b h = cc
rest_off false b h = h

other_way : (a b : ℕ) → (a == b) ≡ false → (b == a) ≡ false
other_way a b h = grind (arith, nat_tests)

-- nor is a mark of another service
others : (c : Condition) (sid : ℕ) (mark : Mark) (ws : List WatchedService) → list_any (λ w. w.sid == sid) ws ≡ false
    → map (λ w. watched_after c (mark_of w.sid (Event sid mark)) w) ws ≡ ws
others c sid mark [] h = refl
others c sid mark (w ∷ ws) h =
    let off : (sid == w.sid) ≡ false = other_way w.sid sid (first_off (w.sid == sid) (list_any (λ v. v.sid == sid) ws) h) in
    ap (λ b. watched_after c (if b then Some mark else None) w ∷ map (λ v. watched_after c (mark_of v.sid (Event sid mark)) v) ws) off
    ∙ ap (λ vs. w ∷ vs) (others c sid mark ws (rest_off (w.sid == sid) (list_any (λ v. v.sid == sid) ws) h))

pub unconcerned_watch : (m : Moment) (k : StoredWaiter) → concerns m k ≡ false → watched_then m k ≡ k.watched
unconcerned_watch (Clock at) k h = unmarked k.condition at k.watched
unconcerned_watch (Event sid mark) k h = others k.condition sid mark k.watched h

unconcerned_event : (deadline : Option ℕ) (sid : ℕ) (mark : Mark) → late_at deadline (Event sid mark) ≡ false
unconcerned_event None sid mark = refl
unconcerned_event (Some deadline) sid mark = refl

pub unconcerned_late : (m : Moment) (k : StoredWaiter) → concerns m k ≡ false → late_at k.deadline m ≡ false
unconcerned_late (Clock at) k h = h
unconcerned_late (Event sid mark) k h = unconcerned_event k.deadline sid mark
