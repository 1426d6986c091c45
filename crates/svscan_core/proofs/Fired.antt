-- One service after its timer, and a history that all timers of the moment have joined.
use Rattle.std.proofs.Common.{rules, ◌≡◌, ◌∙◌, ℕ, suc, List, [], ◌∷◌, ◌++◌, Bool, true, false, ◌==◌, cond, refl, sym, ap, map, subst, arith}
use Rattle.std.proofs.Common.{append-nil, append_assoc}
use Rattle.std.specs.Prelude.{All, Some, find, bytes_eq, option_map}
use Rattle.std.proofs.lemmas.List.{map-append}
use Rattle.std.proofs.lemmas.Option.{none-some, same_Some}
use Rattle.deadlines.specs.Timers.{is_rising}
use Rattle.s6_events.specs.Clock.{clock_of}
use Rattle.s6_events.specs.declared.moment.Moment.{Moment}
use Rattle.s6_events.specs.declared.moment.Moment.TheVariants as moments
use Rattle.supervise_core.specs.declared.chart_state.ChartState.{ChartState}
use Rattle.supervise_core.specs.declared.row.Status.{Status}
use Rattle.supervise_core.specs.ChartState.{Moved}
use Rattle.supervise_core.specs.Service.{Supervised, ServiceView, service_view, AgreesAs, AgreesWith, KeepsAgreeing}
use Rattle.supervise_core.specs.Status.{Agrees}
use Rattle.svscan_core.specs.Moves.{moment_of, events_of_move, services_after, events_after}
use Rattle.svscan_core.specs.Sound.{AllAgree}
use Rattle.svscan_core.specs.Table.{charts_of, serials_of}
use Rattle.svscan_core.proofs.Agreeing.{all_later, clock_with_events, others_agree, all_others_agree, Lack, lacks_lower, moments_of_marks}
use Rattle.svscan_core.proofs.Truth.{both_left, both_right}

-- the events of one more service, before those of others
before_others : (h : List Moment) (move : ChartState → Moved) (s : Supervised) (services : List Supervised)
    → (h ++ map (λ mark. moments.Event s.chart.sid mark) (move s.chart).marks) ++ map moment_of (events_after move (charts_of services))
    ≡ h ++ map moment_of (events_after move (charts_of (s ∷ services)))
before_others h move s services =
    append_assoc h (map (λ mark. moments.Event s.chart.sid mark) (move s.chart).marks) (map moment_of (events_after move (charts_of services)))
    ∙ ap (λ ms. h ++ ms) (ap (λ ms. ms ++ map moment_of (events_after move (charts_of services)))
    (sym (moments_of_marks s.chart.sid (move s.chart).marks))
    ∙ sym (map-append moment_of (events_of_move s.chart.sid (move s.chart)) (events_after move (charts_of services))))

-- marks of others, of each in turn
many_others : (sid : ℕ) (status : Status) (move : ChartState → Moved) (services : List Supervised) (h : List Moment) → Lack sid services
    → Agrees sid status h
    → Agrees sid status (h ++ map moment_of (events_after move (charts_of services)))
many_others sid status move [] h lack a = subst (λ (x : List Moment). Agrees sid status x) (sym (append-nil h)) a
many_others sid status move (s ∷ services) h lack a =
    subst (λ (x : List Moment). Agrees sid status x) (before_others h move s services)
    (many_others sid status move services (h ++ map (λ mark. moments.Event s.chart.sid mark) (move s.chart).marks) lack.1
    (others_agree sid s.chart.sid status h (move s.chart).marks (turned sid s.chart.sid lack.0) a))
  where
    turned : (m n : ℕ) → (m == n) ≡ false → (n == m) ≡ false
    turned m n e = search rules

-- the service of a name takes its move, and so does each other one
pub named_agrees : (now : ℕ) (move : ChartState → Moved) (name : List ℕ) (s : Supervised) (x : ServiceView) (services : List Supervised)
    (h : List Moment)
    → find (λ t. bytes_eq name t.chart.name) services ≡ Some s → x.chart.sid ≡ s.chart.sid
    → KeepsAgreeing now (move s.chart).marks (service_view s) x
    → is_rising (serials_of (charts_of services)) ≡ true → clock_of h ≡ now → AllAgree services h
    → AgreesAs x (h ++ map moment_of (events_after move (charts_of services)))
named_agrees now move name s x [] h found same keeps r at all = absurd (none-some s found)
named_agrees now move name s x (t ∷ services) h found same keeps r at all = by (bytes_eq name t.chart.name) found
    (λ later. subst (λ (ms : List Moment). AgreesAs x ms) (before_others h move t services)
    (named_agrees now move name s x services (h ++ map (λ mark. moments.Event t.chart.sid mark) (move t.chart).marks) later same keeps
    (both_right _ (is_rising (serials_of (charts_of services))) r)
    (clock_after_marks ∙ at)
    (all_others_agree t.chart.sid services h (move t.chart).marks lack (all_later (λ (y : Supervised). AgreesWith y h) t services all))))
  where
    lack : Lack t.chart.sid services
    lack = lacks_lower t.chart.sid services (both_left _ (is_rising (serials_of (charts_of services))) r)

    clock_after_marks : clock_of (h ++ map (λ mark. moments.Event t.chart.sid mark) (move t.chart).marks) ≡ clock_of h
    clock_after_marks =
        ap (λ ms. clock_of (h ++ ms)) (sym (moments_of_marks t.chart.sid (move t.chart).marks))
        ∙ clock_with_events h (events_of_move t.chart.sid (move t.chart))

    by : (b : Bool) → cond b (Some t) (find (λ u. bytes_eq name u.chart.name) services) ≡ Some s
        → (find (λ u. bytes_eq name u.chart.name) services ≡ Some s
        → AgreesAs x (h ++ map moment_of (events_after move (charts_of (t ∷ services)))))
        → AgreesAs x (h ++ map moment_of (events_after move (charts_of (t ∷ services))))
    by true e later =
        let is : t ≡ s = same_Some t s e in
        let own : AgreesAs x (h ++ map (λ mark. moments.Event t.chart.sid mark) (move t.chart).marks) =
        subst (λ (y : Supervised). AgreesAs x (h ++ map (λ mark. moments.Event y.chart.sid mark) (move y.chart).marks)) (sym is)
        (keeps h at (subst (λ (y : Supervised). AgreesWith y h) is (all 0 t (omega arith)))) in
        subst (λ (ms : List Moment). AgreesAs x ms) (before_others h move t services)
        (many_others x.chart.sid x.status move services (h ++ map (λ mark. moments.Event t.chart.sid mark) (move t.chart).marks)
        (subst (λ (n : ℕ). Lack n services) (ap (λ (y : Supervised). y.chart.sid) is ∙ sym same) lack) own)
    by false e later = later e

-- the state of the service of a name, once each has taken its move
pub named_moves : (move : ChartState → Moved) (name : List ℕ) (services : List Supervised) → ((c : ChartState) → (move c).chart.name ≡ c.name)
    → find (λ c. bytes_eq name c.name) (services_after move (charts_of services))
    ≡ option_map (λ s. (move s.chart).chart) (find (λ s. bytes_eq name s.chart.name) services)
named_moves move name [] keeps = refl
named_moves move name (s ∷ services) keeps =
    ap (λ n. cond (bytes_eq name n) (Some (move s.chart).chart) (find (λ c. bytes_eq name c.name) (services_after move (charts_of services))))
    (keeps s.chart)
    ∙ by (bytes_eq name s.chart.name) (named_moves move name services keeps)
  where
    by : (b : Bool) → find (λ c. bytes_eq name c.name) (services_after move (charts_of services))
        ≡ option_map (λ t. (move t.chart).chart) (find (λ t. bytes_eq name t.chart.name) services)
        → cond b (Some (move s.chart).chart) (find (λ c. bytes_eq name c.name) (services_after move (charts_of services)))
        ≡ option_map (λ t. (move t.chart).chart) (cond b (Some s) (find (λ t. bytes_eq name t.chart.name) services))
    by true e = refl
    by false e = e

-- what is true of all is true of the one that was found
pub found_has : (P : ChartState → Type 0) (name : List ℕ) (services : List Supervised) (s : Supervised) → All P (charts_of services)
    → find (λ t. bytes_eq name t.chart.name) services ≡ Some s → P s.chart
found_has P name [] s all e = absurd (none-some s e)
found_has P name (t ∷ services) s all e = by (bytes_eq name t.chart.name) e
    (found_has P name services s (λ k d lt. all (suc k) d (omega (arith, lt))))
  where
    by : (b : Bool) → cond b (Some t) (find (λ u. bytes_eq name u.chart.name) services) ≡ Some s
        → (find (λ u. bytes_eq name u.chart.name) services ≡ Some s → P s.chart) → P s.chart
    by true e later = subst (λ (y : Supervised). P y.chart) (same_Some t s e) (all 0 t.chart (omega arith))
    by false e later = later e
