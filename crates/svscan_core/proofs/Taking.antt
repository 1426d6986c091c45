-- A step that touches one service after the other.
use Rattle.std.proofs.Common.{◌≡◌, ◌≢◌, ℕ, zero, suc, ◌+◌, ◌<◌, ◌≤◌, List, [], ◌∷◌, ◌++◌, refl, sym, ◌∙◌, ap, map, flat_map, get_or, subst, true, take}
use Rattle.std.proofs.Common.{drop, append-nil, append_assoc, length, rules, arith}
use Rattle.std.specs.Prelude.{Option, Some, None, option_map, slice_get, slice_set, IsSomeAnd, unwrap_or}
use Rattle.std.proofs.lemmas.Option.{none-some, same_Some}
use Rattle.s6_events.specs.declared.exit.Exit.{Exit}
use Rattle.std.proofs.lemmas.List.{map-append, map-set, take-append-le}
use Rattle.std.proofs.lemmas.List.Sums.{fold-append, fold_more}
use Rattle.std.proofs.Math.Numerals.{add-one}
use Rattle.deadlines.specs.declared.timer.Timer.{Timer}
use Rattle.deadlines.specs.declared.timer.TimerChange.{TimerChange}
use Rattle.deadlines.specs.Timers.{is_rising, with_timer_change, with_timer_changes}
use Rattle.s6_events.specs.declared.mark.Mark.{Mark}
use Rattle.s6_events.specs.declared.order.Order.{Order}
use Rattle.s6_events.specs.declared.moment.Moment.{Moment}
use Rattle.s6_events.specs.declared.moment.Moment.TheVariants as moment
use Rattle.supervise_core.specs.declared.chart_state.ChartState.{ChartState}
use Rattle.supervise_core.specs.ChartState.{Moved, no_move}
use Rattle.supervise_core.specs.declared.out.Out.{Out}
use Rattle.supervise_core.specs.MatchesMove.{MatchesMove}
use Rattle.supervise_core.specs.Service.{Supervised, ServiceView, service_view, with_view, AgreesWith, KeepsAgreeing}
use Rattle.svscan_core.specs.declared.event.Event.{Event}
use Rattle.svscan_core.specs.declared.moves.ChangedService.{ChangedService}
use Rattle.svscan_core.specs.Moves.{service_mark, moment_of, events_of_move, events_after, orders_after}
use Rattle.svscan_core.specs.Moving.{StepSoFar, with_view_at, with_change, with_changes, KeepNames, TakesAt, TakesUpTo, Takes}
use Rattle.svscan_core.specs.Deaths.{DeathOf, death_of, deaths_after, AllTallied}
use Rattle.svscan_core.specs.Sound.{AllAgree}
use Rattle.svscan_core.specs.Timers.{timer_change_of, TimersAgree}
use Rattle.svscan_core.specs.Table.{charts_of, serials_of}
use Rattle.svscan_core.proofs.Agreeing.{moments_of_marks, clock_with_events, place_agrees}
use Rattle.svscan_core.proofs.Tallied.{Joins, place_tallied}
use Rattle.svscan_core.proofs.Timers.{agrees_one, changed_more}
use Rattle.svscan_core.proofs.Places.{get_map, set_itself, half_get, half_set, half_all, flat_more, get_set_none, get_set_same, get_set_other}

-- one more is touched
pub touched_more : (services : List Supervised) (ts : List ChangedService) (t : ChangedService)
    → with_changes services (ts ++ t ∷ []) ≡ with_change (with_changes services ts) t
touched_more services ts t = fold-append with_change services ts (t ∷ [])

-- what is touched at one place leaves what stands at another
elsewhere : (services : List Supervised) (t : ChangedService) (p : ℕ) → t.place ≢ p → slice_get (with_change services t) p ≡ slice_get services p
elsewhere services t p apart = by (slice_get services t.place)
  where
    by : (o : Option Supervised) → slice_get (with_view_at t o services) p ≡ slice_get services p
    by None = refl
    by (Some s) = get_set_other services p t.place (with_view t.standing t.death s) apart

-- a place that wasn't visited still isn't, where one below it is touched
pub still_unvisited : (services : List Supervised) (ts : List ChangedService) (t : ChangedService) (before p : ℕ) → before ≤ length ts → t.place < p
    → slice_get (with_changes services (take before ts)) p ≡ slice_get (with_changes services ts) p
    → slice_get (with_changes services (take before (ts ++ t ∷ []))) p ≡ slice_get (with_changes services (ts ++ t ∷ [])) p
still_unvisited services ts t before p within below same =
    ap (λ us. slice_get (with_changes services us) p) (take-append-le before ts (t ∷ []) within)
    ∙ (same ∙ (sym (elsewhere (with_changes services ts) t p (λ e. absurd (omega (arith, e, below))))
    ∙ sym (ap (λ ss. slice_get ss p) (touched_more services ts t))))

pub names_kept : (services : List Supervised) (ts : List ChangedService) (t : ChangedService) → KeepNames services ts
    → IsSomeAnd (slice_get (with_changes services ts) t.place) (λ s. s.chart.name ≡ t.standing.chart.name) → KeepNames services (ts ++ t ∷ [])
names_kept services [] t h own = (own, tt)
names_kept services (u ∷ ts) t h own = (h.0, names_kept (with_change services u) ts t h.1 own)

-- a place whose name is kept is not empty
pub kept_there : (services : List Supervised) (t : ChangedService)
    → IsSomeAnd (slice_get services t.place) (λ s. s.chart.name ≡ t.standing.chart.name)
    → (s : Supervised) × (slice_get services t.place ≡ Some s)
kept_there services t h = by (slice_get services t.place) refl h
  where
    by : (o : Option Supervised) → slice_get services t.place ≡ o → IsSomeAnd o (λ s. s.chart.name ≡ t.standing.chart.name)
        → (s : Supervised) × (slice_get services t.place ≡ Some s)
    by None is k = absurd k
    by (Some s) is k = (s, is)

-- events that join after others
pub joined : (h : List Moment) (before : List Event) (sid : ℕ) (marks : List Mark)
    → h ++ map moment_of (before ++ map (service_mark sid) marks) ≡ (h ++ map moment_of before) ++ map (λ mark. moment.Event sid mark) marks
joined h before sid marks =
    ap (λ ms. h ++ ms) (map-append moment_of before (map (service_mark sid) marks))
    ∙ (sym (append_assoc h (map moment_of before) (map moment_of (map (service_mark sid) marks)))
    ∙ ap (λ ms. (h ++ map moment_of before) ++ ms) (moments_of_marks sid marks))

-- what stands at a place
pub stood : (o : Option Supervised) (b : ServiceView) → Some b ≡ option_map service_view o → (s : Supervised) × (o ≡ Some s) × (service_view s ≡ b)
stood None b e = absurd (none-some b (sym e))
stood (Some s) b e = (s, refl, same_Some (service_view s) b (sym e))

-- a service that is there takes over what it became
pub one_taken : (services : List Supervised) (t : ChangedService) (s : Supervised) → slice_get services t.place ≡ Some s
    → with_change services t ≡ slice_set services t.place (with_view t.standing t.death s)
one_taken services t s e = ap (λ o. with_view_at t o services) e

-- what a touched service leaves and gives
taken : (now place : ℕ) (services new_services : List Supervised) (events new_events : List Event) (orders new_orders : List Order)
    (timers new_timers : List TimerChange)
    (s : Supervised) (after : ServiceView) (death : Option (ℕ × Exit)) (moved : Moved) (out : Out)
    → slice_get services place ≡ Some s → is_rising (serials_of (charts_of services)) ≡ true
    → new_services ≡ slice_set services place (with_view after death s) → new_events ≡ events ++ map (service_mark after.chart.sid) out.events.items
    → new_orders ≡ orders ++ out.orders.items → new_timers ≡ timers ++ timer_change_of after.chart ∷ []
    → MatchesMove moved after.chart out → KeepsAgreeing now out.events.items (service_view s) after → after.chart.sid ≡ s.chart.sid
    → Joins s.chart moved death
    → TakesAt now place s.chart moved (record { services = services; events = events; orders = orders; timers = timers })
    (record { services = new_services; events = new_events; orders = new_orders; timers = new_timers })
taken now place services new_services events new_events orders new_orders timers new_timers s after death moved out there rising ns ne os nt gives
    keeps same joins =
    let own : new_events ≡ events ++ map (service_mark s.chart.sid) out.events.items =
    ne ∙ ap (λ n. events ++ map (service_mark n) out.events.items) same in
    let now_there = with_view after death s in
    record {
      services = ap charts_of ns ∙ (map-set (λ (t : Supervised). t.chart) services place now_there
          ∙ ap (λ c. slice_set (charts_of services) place c) gives.chart);
      events = own ∙ ap (λ ms. events ++ map (service_mark s.chart.sid) ms) gives.marks;
      orders = os ∙ ap (λ xs. orders ++ xs) gives.orders;
      agrees = λ h at all.
          let clock = clock_with_events h events ∙ at in
          let agreed : AllAgree (slice_set services place now_there)
          ((h ++ map moment_of events) ++ map (λ mark. moment.Event s.chart.sid mark) out.events.items) =
          place_agrees now place services s now_there out.events.items (h ++ map moment_of events) there same rising
          (keeps (h ++ map moment_of events) clock (agreed_at services place s (h ++ map moment_of events) there all)) all in
          subst (λ (es : List Event). AllAgree new_services (h ++ map moment_of es)) (sym own)
          (subst (λ (ss : List Supervised). AllAgree ss (h ++ map moment_of (events ++ map (service_mark s.chart.sid) out.events.items))) (sym ns)
          (subst (λ (ms : List Moment). AllAgree (slice_set services place now_there) ms)
          (sym (joined h events s.chart.sid out.events.items)) agreed));
      timers = λ ts a.
          let cs = charts_of services in
          let charts : charts_of new_services ≡ slice_set cs place after.chart =
          ap charts_of ns ∙ map-set (λ (t : Supervised). t.chart) services place now_there in
          let told : with_timer_changes new_timers ts ≡ with_timer_change (with_timer_changes timers ts) (timer_change_of after.chart) =
          ap (λ xs. with_timer_changes xs ts) nt ∙ changed_more timers (timer_change_of after.chart) ts in
          let serial : slice_get (serials_of cs) place ≡ Some after.chart.sid =
          get_map (λ (c : ChartState). c.sid) cs place s.chart (get_map (λ (t : Supervised). t.chart) services place s there)
          ∙ ap Some (sym same) in
          subst (λ (us : List Timer). TimersAgree us (charts_of new_services)) (sym told)
          (subst (λ (xs : List ChartState). TimersAgree (with_timer_change (with_timer_changes timers ts) (timer_change_of after.chart)) xs)
          (sym charts)
          (agrees_one (with_timer_changes timers ts) cs place after.chart a rising serial));
      tallies = λ deaths all.
          subst (λ (ss : List Supervised). AllTallied ss (deaths ++ map (death_of s.chart.sid) moved.deaths)) (sym ns)
          (place_tallied place services s after moved death deaths there gives.chart same joins rising all);
    }
  where
    agreed_at : (ss : List Supervised) (p : ℕ) (t : Supervised) (h : List Moment) → slice_get ss p ≡ Some t → AllAgree ss h → AgreesWith t h
    agreed_at [] p t h e all = search rules
    agreed_at (x ∷ ss) zero t h e all = subst (λ (y : Supervised). AgreesWith y h) (ap (λ o. unwrap_or o x) e) (all 0 x (omega arith))
    agreed_at (x ∷ ss) (suc p) t h e all = agreed_at ss p t h e (λ k d lt. all (suc k) d (omega (arith, lt)))

pub touched_takes : (now place : ℕ) (services new_services : List Supervised) (events new_events : List Event) (orders new_orders : List Order)
    (timers new_timers : List TimerChange)
    (s : Supervised) (before after : ServiceView) (death : Option (ℕ × Exit)) (moved : Moved) (out : Out)
    → slice_get services place ≡ Some s → service_view s ≡ before → is_rising (serials_of (charts_of services)) ≡ true
    → MatchesMove moved after.chart out → KeepsAgreeing now out.events.items before after → after.chart.sid ≡ before.chart.sid
    → Joins before.chart moved death
    → new_services ≡ slice_set services place (with_view after death s) → new_events ≡ events ++ map (service_mark after.chart.sid) out.events.items
    → new_orders ≡ orders ++ out.orders.items → new_timers ≡ timers ++ timer_change_of after.chart ∷ []
    → TakesAt now place before.chart moved (record { services = services; events = events; orders = orders; timers = timers })
    (record { services = new_services; events = new_events; orders = new_orders; timers = new_timers })
touched_takes now place services new_services events new_events orders new_orders timers new_timers s before after death moved out there is rising
    gives keeps same joins ns ne os nt =
    subst (λ (b : ServiceView). KeepsAgreeing now out.events.items b after → after.chart.sid ≡ b.chart.sid → Joins b.chart moved death
    → TakesAt now place b.chart moved (record { services = services; events = events; orders = orders; timers = timers })
    (record { services = new_services; events = new_events; orders = new_orders; timers = new_timers }))
    is (taken now place services new_services events new_events orders new_orders timers new_timers s after death moved out there rising ns ne os nt
    gives)
    keeps same joins

-- a service that stays, where nothing is touched
pub stays_takes : (now place : ℕ) (c : ChartState) (m : StepSoFar) → slice_get (charts_of m.services) place ≡ Some c
    → TakesAt now place c (no_move c) m m
stays_takes now place c m there = record {
  services = sym (set_itself (charts_of m.services) place c there);
  events = sym (append-nil m.events);
  orders = sym (append-nil m.orders);
  agrees = λ h at all. all;
  timers = λ ts a. a;
  tallies = λ deaths all. subst (λ (ds : List DeathOf). AllTallied m.services ds) (sym (append-nil deaths)) all;
}

-- one more has
pub takes_more : (now : ℕ) (move : ChartState → Moved) (place : ℕ) (c : ChartState) (old mid new : StepSoFar)
    → slice_get (charts_of old.services) place ≡ Some c
    → TakesUpTo now move place old mid → (slice_get (charts_of mid.services) place ≡ Some c → TakesAt now place c (move c) mid new)
    → TakesUpTo now move (place + 1) old new
takes_more now move place c old mid new there so_far next =
    let cs = charts_of old.services in
    let at : slice_get (charts_of mid.services) place ≡ Some c =
    ap (λ ss. slice_get ss place) so_far.services ∙ (half_get (λ s. (move s).chart) place cs ∙ there) in
    let n = next at in
    record {
      services = n.services
          ∙ (ap (λ ss. slice_set ss place (move c).chart) so_far.services
          ∙ (half_set (λ s. (move s).chart) place cs c there
          ∙ ap (λ k. map (λ s. (move s).chart) (take k cs) ++ drop k cs) (sym (add-one place))));
      events = n.events
          ∙ (ap (λ es. es ++ events_of_move c.sid (move c)) so_far.events
          ∙ (append_assoc old.events _ _
          ∙ ap (λ es. old.events ++ es) (sym (flat_more (λ s. events_of_move s.sid (move s)) place cs c there)
          ∙ ap (λ k. flat_map (λ s. events_of_move s.sid (move s)) (take k cs)) (sym (add-one place)))));
      orders = n.orders
          ∙ (ap (λ os. os ++ (move c).orders) so_far.orders
          ∙ (append_assoc old.orders _ _
          ∙ ap (λ os. old.orders ++ os) (sym (flat_more (λ s. (move s).orders) place cs c there)
          ∙ ap (λ k. flat_map (λ s. (move s).orders) (take k cs)) (sym (add-one place)))));
      agrees = λ h clock all. n.agrees h clock (so_far.agrees h clock all);
      timers = λ ts a. n.timers ts (so_far.timers ts a);
      tallies = λ deaths all.
          let before = deaths_after move (take place cs) in
          let all_so_far : deaths_after move (take (place + 1) cs) ≡ before ++ map (death_of c.sid) (move c).deaths =
          ap (λ k. flat_map (λ s. map (death_of s.sid) (move s).deaths) (take k cs)) (add-one place)
          ∙ flat_more (λ s. map (death_of s.sid) (move s).deaths) place cs c there in
          subst (λ (ds : List DeathOf). AllTallied new.services ds)
          (append_assoc deaths before (map (death_of c.sid) (move c).deaths) ∙ ap (λ ds. deaths ++ ds) (sym all_so_far))
          (n.tallies (deaths ++ before) (so_far.tallies deaths all));
    }

-- all have
pub takes_all : (now : ℕ) (move : ChartState → Moved) (old new : StepSoFar) → TakesUpTo now move (length old.services) old new
    → Takes now move old new
takes_all now move old new up = by (length-charts old.services)
  where
    length-charts : (ss : List Supervised) → length ss ≡ length (charts_of ss)
    length-charts [] = refl
    length-charts (s ∷ ss) = ap suc (length-charts ss)

    whole : (cs : List ChartState) → take (length cs) cs ≡ cs
    whole [] = refl
    whole (c ∷ cs) = ap (λ rest. c ∷ rest) (whole cs)

    by : length old.services ≡ length (charts_of old.services) → Takes now move old new
    by e =
        let cs = charts_of old.services in
        let all : take (length old.services) cs ≡ cs = ap (λ n. take n cs) e ∙ whole cs in
        record {
          services = up.services ∙ (ap (λ n. map (λ c. (move c).chart) (take n cs) ++ drop n cs) e ∙ half_all (λ c. (move c).chart) cs);
          events = up.events ∙ ap (λ x. old.events ++ events_after move x) all;
          orders = up.orders ∙ ap (λ x. old.orders ++ orders_after move x) all;
          agrees = up.agrees;
          timers = up.timers;
          tallies = λ deaths listed. subst (λ (x : List ChartState). AllTallied new.services (deaths ++ deaths_after move x)) all
              (up.tallies deaths listed);
        }

-- what stands at a place, once one more is touched
pub none_touched : (services : List Supervised) (ts : List ChangedService) (p : ℕ) → slice_get services p ≡ None
    → slice_get (with_changes services ts) p ≡ None
none_touched services [] p e = e
none_touched services (t ∷ ts) p e = none_touched (with_change services t) ts p (none_taken (slice_get services t.place))
  where
    none_taken : (o : Option Supervised) → slice_get (with_view_at t o services) p ≡ None
    none_taken None = e
    none_taken (Some s) = get_set_none services p t.place (with_view t.standing t.death s) e

pub own_touched : (services : List Supervised) (t : ChangedService) (p : ℕ) (b : ServiceView) → t.place ≡ p
    → Some b ≡ option_map service_view (slice_get services p)
    → Some t.standing ≡ option_map service_view (slice_get (with_change services t) p)
own_touched services t p b e h =
    let old = stood (slice_get services p) b h in
    let there : slice_get services t.place ≡ Some old.0 = ap (slice_get services) e ∙ old.1 in
    sym (ap (λ ss. option_map service_view (slice_get ss p)) (one_taken services t old.0 there)
    ∙ (ap (λ q. option_map service_view (slice_get (slice_set services q (with_view t.standing t.death old.0)) p)) e
    ∙ ap (option_map service_view) (get_set_same services p (with_view t.standing t.death old.0) old.0 old.1)))

pub other_touched : (services : List Supervised) (t : ChangedService) (p : ℕ) → t.place ≢ p
    → slice_get (with_change services t) p ≡ slice_get services p
other_touched services t p n = by (slice_get services t.place)
  where
    by : (o : Option Supervised) → slice_get (with_view_at t o services) p ≡ slice_get services p
    by None = refl
    by (Some s) = get_set_other services p t.place (with_view t.standing t.death s) n

pub touched_first : (services : List Supervised) (ts : List ChangedService) (i : ℕ) (d : ChangedService) → i < length ts
    → with_changes services (take (i + 1) ts) ≡ with_change (with_changes services (take i ts)) (get_or ts i d)
touched_first services ts i d lt = fold_more with_change services ts i d lt

pub length_touched : (services : List Supervised) (ts : List ChangedService) → length (with_changes services ts) ≡ length services
length_touched services [] = refl
length_touched services (t ∷ ts) = length_touched (with_change services t) ts ∙ by (slice_get services t.place)
  where
    length-set : (ss : List Supervised) (p : ℕ) (s : Supervised) → length (slice_set ss p s) ≡ length ss
    length-set [] p s = refl
    length-set (x ∷ ss) zero s = refl
    length-set (x ∷ ss) (suc p) s = ap suc (length-set ss p s)

    by : (o : Option Supervised) → length (with_view_at t o services) ≡ length services
    by None = refl
    by (Some s) = length-set services t.place (with_view t.standing t.death s)

-- a touched service keeps its serial
pub serials_touched : (services : List Supervised) (p : ℕ) (before after : Supervised) → slice_get services p ≡ Some before
    → after.chart.sid ≡ before.chart.sid
    → serials_of (charts_of (slice_set services p after)) ≡ serials_of (charts_of services)
serials_touched [] p before after e same = refl
serials_touched (s ∷ services) zero before after e same =
    ap (λ n. n ∷ serials_of (charts_of services)) (same ∙ sym (ap (λ o. (unwrap_or o s).chart.sid) e))
serials_touched (s ∷ services) (suc p) before after e same = ap (λ ns. s.chart.sid ∷ ns) (serials_touched services p before after e same)

-- the state of the service at a place
pub chart_there : (services : List Supervised) (p : ℕ) (s : Supervised) (c : ChartState) → slice_get services p ≡ Some s
    → slice_get (charts_of services) p ≡ Some c → s.chart ≡ c
chart_there services p s c there e = ap (λ o. unwrap_or o s.chart) (sym (get_map (λ (t : Supervised). t.chart) services p s there) ∙ e)
