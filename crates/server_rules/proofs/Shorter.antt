-- A release leaves no more of a connection than stood before.
use Rattle.std.proofs.Common.{rules, refl, subst, ◌&&◌, ◌≡◌, ◌==◌, ◌<◌, ◌≤◌, ◌+◌, ◌||◌, ℕ, suc, List, [], ◌∷◌, ◌++◌, Bool, true, false, not, length, cond, arith}
use Rattle.std.proofs.lemmas.Bool.{ltb-true, lt-ltb}
use Rattle.std.proofs.lemmas.List.{length-append}
use Rattle.server_rules.specs.declared.phase.Errand.{Errand}
use Rattle.server_rules.specs.declared.phase.Errand.TheVariants as errand
use Rattle.server_rules.specs.declared.phase.ClientPhase.{ClientPhase}
use Rattle.server_rules.specs.declared.phase.ClientPhase.TheVariants.{Idle, Stepping, UnderWay, PutOff, LeftStepping, Left, Leaving, Cancelling, Gone}
use Rattle.server_rules.specs.declared.made_things.MadeChange.{MadeChange}
use Rattle.server_rules.specs.declared.made_things.MadeChange.TheVariants as change
use Rattle.server_rules.specs.declared.todo.News.{News}
use Rattle.server_rules.specs.declared.todo.News.TheVariants as news
use Rattle.tree_core.specs.declared.effect.Release.{Release}
use Rattle.server_rules.specs.Connection.{View, has_room_in, has_room_on, is_here}
use Rattle.server_rules.specs.NewsTold.{is_for}
use Rattle.server_rules.specs.Made.{Made, after_release, has_place, has_room_for, is_among, without}

one_no_longer : (is : Bool) (x : ℕ) (rest : List ℕ) (n : ℕ) → length rest ≤ n → length (cond (not is) (x ∷ rest) rest) ≤ suc n
one_no_longer true x rest n le = omega (arith, le)
one_no_longer false x rest n le = omega (arith, le)

no_longer : (id : ℕ) (ids : List ℕ) → length (without id ids) ≤ length ids
no_longer id [] = omega arith
no_longer id (x ∷ ids) = one_no_longer (x == id) x (without id ids) (length ids) (no_longer id ids)

one_shorter : (is : Bool) (x : ℕ) (rest : List ℕ) (n : ℕ) (more : Bool) → length rest ≤ n → (more ≡ true → length rest < n) → (is || more) ≡ true
    → length (cond (not is) (x ∷ rest) rest) < suc n
one_shorter true x rest n more le less any = omega (arith, le)
one_shorter false x rest n more le less any = omega (arith, less any)

-- without one of its members a list is shorter
shorter : (id : ℕ) (ids : List ℕ) → is_among id ids ≡ true → length (without id ids) < length ids
shorter id [] any = search rules
shorter id (x ∷ ids) any = one_shorter (x == id) x (without id ids) (length ids) (is_among id ids) (no_longer id ids) (shorter id ids) any

-- an end takes none
pub ended_fits : (id : ℕ) (waiters released : List ℕ) → length waiters + length released ≤ 64
    → length (without id waiters) + length (without id released) ≤ 64
ended_fits id waiters released fit = omega (arith, no_longer id waiters, no_longer id released, fit)

-- a release takes no place
pub fits : (id : ℕ) (waiters released : List ℕ) → is_among id waiters ≡ true → length waiters + length released ≤ 64
    → length (without id waiters) + length (released ++ id ∷ []) ≤ 64
fits id waiters released any fit = rw (length-append released (id ∷ [])) (omega (arith, shorter id waiters any, fit))

place_stays : (id : ℕ) (made : Made) → is_among id made.waiters ≡ true → has_place made ≡ true → has_place (after_release id made) ≡ true
place_stays id made any has =
    lt-ltb _ _ (rw (length-append made.released (id ∷ [])) (omega (arith, shorter id made.waiters any, ltb-true _ _ has)))

room_for : (ch : MadeChange) (id : ℕ) (made : Made) → is_among id made.waiters ≡ true → has_room_for ch made ≡ true
    → has_room_for ch (after_release id made) ≡ true
room_for change.Other id made any has = refl
room_for change.MakesWaiter id made any has = place_stays id made any has
room_for change.MakesSubscription id made any has = has
room_for (change.EndsWaiter ended) id made any has = refl
room_for (change.EndsSubscription ended) id made any has = refl

room_on : (e : Errand) (id : ℕ) (made : Made) → is_among id made.waiters ≡ true → has_room_on e made ≡ true
    → has_room_on e (after_release id made) ≡ true
room_on (errand.Step ch) id made any has = room_for ch id made any has
room_on (errand.Status subject) id made any has = refl
room_on errand.Scan id made any has = refl
room_on errand.Record id made any has = refl
room_on errand.Replacement id made any has = place_stays id made any has

-- there is room still for what is under way
pub room_stays : (phase : ClientPhase) (id : ℕ) (made : Made) → is_among id made.waiters ≡ true → has_room_in phase made ≡ true
    → has_room_in phase (after_release id made) ≡ true
room_stays Idle id made any has = refl
room_stays (Stepping n) id made any has = refl
room_stays (UnderWay e) id made any has = room_on e id made any has
room_stays PutOff id made any has = place_stays id made any has
room_stays (LeftStepping n) id made any has = refl
room_stays (Left e) id made any has = room_on e id made any has
room_stays Leaving id made any has = refl
room_stays Cancelling id made any has = refl
room_stays Gone id made any has = refl

right : (a b : Bool) → (a && b) ≡ true → b ≡ true
right true b both = both
right false b both = search rules

-- a release that is told is of a waiter that stands
pub told_stands : (n : News) (r : Release) (c : View) → n ≡ news.Release r → is_for n c ≡ true → is_among r.waiter c.made.waiters ≡ true
told_stands n r c is told = right (is_here c.phase) (is_among r.waiter c.made.waiters) (subst (λ (m : News). is_for m c ≡ true) is told)
