-- Histories go on agreeing with the services, as the events of a step join.
use Rattle.std.proofs.Common.{◌≡◌, ℕ, zero, suc, List, [], ◌∷◌, ◌++◌, true, false, ◌==◌, refl, sym, ◌∙◌, ap, map, subst, arith, append-nil}
use Rattle.std.proofs.Common.{append_assoc, rules}
use Rattle.std.specs.Prelude.{All, Some, slice_get, slice_set, nat_lt}
use Rattle.std.specs.List.{list_all}
use Rattle.std.proofs.lemmas.List.Sums.{fold-append}
use Rattle.deadlines.specs.Timers.{is_rising}
use Rattle.s6_events.specs.Clock.{clock_of, clock_after}
use Rattle.s6_events.specs.declared.mark.Mark.{Mark}
use Rattle.s6_events.specs.declared.moment.Moment.{Moment}
use Rattle.s6_events.specs.declared.moment.Moment.TheVariants as moment
use Rattle.supervise_core.specs.declared.row.Status.{Status}
use Rattle.supervise_core.specs.Service.{Supervised, AgreesWith}
use Rattle.supervise_core.specs.Status.{Agrees}
use Rattle.supervise_core.proofs.Agreement.{agrees_other}
use Rattle.svscan_core.specs.declared.event.Event.{Event}
use Rattle.svscan_core.specs.Moves.{service_mark, moment_of}
use Rattle.svscan_core.specs.Sound.{AllAgree}
use Rattle.svscan_core.specs.Table.{charts_of, serials_of}
use Rattle.svscan_core.proofs.Truth.{both_left, both_right}
use Rattle.svscan_core.proofs.Serials.{later_other, earlier_other}

-- what is true of the first and of all others
pub all_of : {X : Type 0} (P : X → Type 0) (x : X) (xs : List X) → P x → All P xs → All P (x ∷ xs)
all_of P x xs h rest zero d lt = h
all_of P x xs h rest (suc k) d lt = rest k d (omega (arith, lt))

pub all_later : {X : Type 0} (P : X → Type 0) (x : X) (xs : List X) → All P (x ∷ xs) → All P xs
all_later P x xs h = λ k d lt. h (suc k) d (omega (arith, lt))

-- marks as events, and as moments
pub moments_of_marks : (sid : ℕ) (marks : List Mark) → map moment_of (map (service_mark sid) marks) ≡ map (λ mark. moment.Event sid mark) marks
moments_of_marks sid [] = refl
moments_of_marks sid (mark ∷ marks) = ap (λ ms. moment.Event sid mark ∷ ms) (moments_of_marks sid marks)

-- events move no clock
pub clock_with_events : (h : List Moment) (events : List Event) → clock_of (h ++ map moment_of events) ≡ clock_of h
clock_with_events h [] = ap clock_of (append-nil h)
clock_with_events h (e ∷ rest) =
    ap clock_of (sym (append_assoc h (moment_of e ∷ []) (map moment_of rest)))
    ∙ (clock_with_events (h ++ moment_of e ∷ []) rest ∙ fold-append clock_after 0 h (moment_of e ∷ []))

-- the marks of another service
pub others_agree : (sid of : ℕ) (s : Status) (h : List Moment) (marks : List Mark) → (of == sid) ≡ false → Agrees sid s h
    → Agrees sid s (h ++ map (λ mark. moment.Event of mark) marks)
others_agree sid of s h [] other a = subst (λ (x : List Moment). Agrees sid s x) (sym (append-nil h)) a
others_agree sid of s h (mark ∷ rest) other a =
    subst (λ (x : List Moment). Agrees sid s x) (append_assoc h (moment.Event of mark ∷ []) (map (λ m. moment.Event of m) rest))
    (others_agree sid of s (h ++ moment.Event of mark ∷ []) rest other (agrees_other sid of s h mark other a))

-- none of these has the serial
abbrev pub Lack : ℕ → List Supervised → Type 0
Lack sid [] = Unit {0}
Lack sid (s ∷ services) = ((sid == s.chart.sid) ≡ false) × Lack sid services

pub lacks_lower : (sid : ℕ) (services : List Supervised) → list_all (λ m. nat_lt sid m) (serials_of (charts_of services)) ≡ true → Lack sid services
lacks_lower sid [] h = tt
lacks_lower sid (s ∷ services) h = (
  earlier_other sid s.chart.sid (both_left (nat_lt sid s.chart.sid) _ h),
  lacks_lower sid services
      (both_right (nat_lt sid s.chart.sid) _ h),
)

pub all_others_agree : (of : ℕ) (services : List Supervised) (h : List Moment) (marks : List Mark) → Lack of services → AllAgree services h
    → AllAgree services (h ++ map (λ mark. moment.Event of mark) marks)
all_others_agree of [] h marks lack all = λ k d lt. absurd (omega (arith, lt))
all_others_agree of (s ∷ services) h marks lack all =
    all_of (λ (x : Supervised). AgreesWith x (h ++ map (λ mark. moment.Event of mark) marks)) s services
    (others_agree s.chart.sid of s.status h marks lack.0 (all 0 s (omega arith)))
    (all_others_agree of services h marks lack.1 (all_later (λ (x : Supervised). AgreesWith x h) s services all))

-- a serial behind others is above them
pub above_at : (m : ℕ) (services : List Supervised) (p : ℕ) (s : Supervised) → list_all (λ n. nat_lt m n) (serials_of (charts_of services)) ≡ true
    → slice_get services p ≡ Some s → nat_lt m s.chart.sid ≡ true
above_at m [] p s h e = search rules
above_at m (x ∷ services) zero s h e = ap (λ (y : Supervised). nat_lt m y.chart.sid) (sym (some_is x s e)) ∙ both_left (nat_lt m x.chart.sid) _ h
  where
    some_is : (x s : Supervised) → Some x ≡ Some s → x ≡ s
    some_is x s e = search rules
above_at m (x ∷ services) (suc p) s h e = above_at m services p s (both_right (nat_lt m x.chart.sid) _ h) e

-- the service at a place takes a change, whose marks join
pub place_agrees : (now p : ℕ) (services : List Supervised) (s x : Supervised) (marks : List Mark) (h : List Moment)
    → slice_get services p ≡ Some s → x.chart.sid ≡ s.chart.sid → is_rising (serials_of (charts_of services)) ≡ true
    → AgreesWith x (h ++ map (λ mark. moment.Event s.chart.sid mark) marks) → AllAgree services h
    → AllAgree (slice_set services p x) (h ++ map (λ mark. moment.Event s.chart.sid mark) marks)
place_agrees now p [] s x marks h there same rising own all = search rules
place_agrees now zero (y ∷ services) s x marks h there same rising own all =
    let is : y ≡ s = some_is y s there in
    all_of (λ (z : Supervised). AgreesWith z (h ++ map (λ mark. moment.Event s.chart.sid mark) marks)) x services own
    (all_others_agree s.chart.sid services h marks
    (subst (λ (z : Supervised). Lack z.chart.sid services) is
    (lacks_lower y.chart.sid services (both_left _ (is_rising (serials_of (charts_of services))) rising)))
    (all_later (λ (z : Supervised). AgreesWith z h) y services all))
  where
    some_is : (x s : Supervised) → Some x ≡ Some s → x ≡ s
    some_is x s e = search rules
place_agrees now (suc p) (y ∷ services) s x marks h there same rising own all =
    let other : (s.chart.sid == y.chart.sid) ≡ false =
    later_other y.chart.sid s.chart.sid (above_at y.chart.sid services p s (both_left _ (is_rising (serials_of (charts_of services))) rising) there)
    in
    all_of (λ (z : Supervised). AgreesWith z (h ++ map (λ mark. moment.Event s.chart.sid mark) marks)) y (slice_set services p x)
    (others_agree y.chart.sid s.chart.sid y.status h marks other (all 0 y (omega arith)))
    (place_agrees now p services s x marks h there same (both_right _ (is_rising (serials_of (charts_of services))) rising) own
    (all_later (λ (z : Supervised). AgreesWith z h) y services all))
