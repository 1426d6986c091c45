-- The service of a serial, and its place.
use Rattle.std.proofs.Common.{◌≡◌, ◌≢◌, ℕ, zero, suc, ◌+◌, ◌-◌, ◌/◌, ◌<◌, ◌≤◌, List, [], ◌∷◌, true, false, ◌==◌, refl, sym, ◌∙◌, ap, rules, arith}
use Rattle.std.proofs.Common.{is_lt, nat_cmp, inl, inr, lit<, ◌++◌, Bool, ◌||◌, cond, subst, map, bytes_eq, find, option_map}
use Rattle.std.proofs.lemmas.Bool.{cases_lt}
use Rattle.std.proofs.Math.Nat.{div-lt_self}
use Rattle.std.proofs.lemmas.List.{map-set}
use Rattle.std.specs.Prelude.{Option, Some, None, slice_get, slice_set, nat_eq, nat_lt, unwrap_or, All}
use Rattle.std.specs.List.{list_any}
use Rattle.deadlines.specs.Timers.{is_rising}
use Rattle.supervise_core.specs.declared.chart_state.ChartState.{ChartState}
use Rattle.supervise_core.specs.declared.change.Change.{Change}
use Rattle.supervise_core.specs.declared.out.Out.{Out}
use Rattle.supervise_core.specs.Chart.{changed_by}
use Rattle.supervise_core.specs.MatchesMove.{MatchesMove}
use Rattle.supervise_core.specs.Service.{Supervised, ServiceView, service_view, with_view, death_by, AgreesWith, KeepsAgreeing}
use Rattle.s6_events.specs.declared.exit.Exit.{Exit}
use Rattle.s6_events.specs.declared.moment.Moment.{Moment}
use Rattle.s6_events.specs.declared.moment.Moment.TheVariants as moment
use Rattle.svscan_core.specs.Changed.{GivesChange, TakesChange}
use Rattle.svscan_core.specs.Deaths.{DeathOf, AllTallied}
use Rattle.svscan_core.specs.Moves.{service_mark}
use Rattle.svscan_core.specs.Sound.{AllAgree}
use Rattle.svscan_core.specs.Table.{charts_of, serials_of}
use Rattle.svscan_core.proofs.Truth.{both_left, both_right, neither_of, neither_left, neither_right}
use Rattle.svscan_core.proofs.Places.{get_map}
use Rattle.svscan_core.proofs.OnePlace.{above_place, one_reported}
use Rattle.svscan_core.proofs.Serials.{itself, earlier_other}
use Rattle.svscan_core.proofs.Agreeing.{all_later, moments_of_marks, place_agrees}
use Rattle.svscan_core.proofs.Tallied.{change_joins, place_tallied}

lower : (m n : ℕ) → nat_lt m n ≡ true → m < n
lower m n h = search rules

unsome : (m n : ℕ) → Some m ≡ Some n → m ≡ n
unsome m n e = search rules

other : (m n : ℕ) → m ≢ n → (m == n) ≡ false
other m n e = search rules

pub is_lower : (m n : ℕ) (b : Bool) → b ≡ is_lt (nat_cmp m n) → b ≡ true → m < n
is_lower m n b e h = search rules

pub is_higher : (m n : ℕ) (a b : Bool) → a ≡ (m == n) → b ≡ is_lt (nat_cmp m n) → a ≡ false → b ≡ false → n < m
is_higher m n a b e l ne nl = search rules

-- of rising numbers, one behind another is above it
pub rises_behind : (ns : List ℕ) (i j m n : ℕ) → is_rising ns ≡ true → slice_get ns i ≡ Some m → slice_get ns j ≡ Some n → i < j → m < n
rises_behind [] i j m n r a b lt = search rules
rises_behind (x ∷ ns) zero zero m n r a b lt = absurd (omega (arith, lt))
rises_behind (x ∷ ns) zero (suc j) m n r a b lt =
    let above : nat_lt x n ≡ true = above_place x ns j n (both_left _ (is_rising ns) r) b in
    lower m n (ap (λ y. nat_lt y n) (sym (unsome x m a)) ∙ above)
rises_behind (x ∷ ns) (suc i) zero m n r a b lt = absurd (omega (arith, lt))
rises_behind (x ∷ ns) (suc i) (suc j) m n r a b lt = rises_behind ns i j m n (both_right _ (is_rising ns) r) a b (omega (arith, lt))

-- the serial of the service at a place
pub serial_there : (services : List Supervised) (p : ℕ) (s : Supervised) → slice_get services p ≡ Some s
    → slice_get (serials_of (charts_of services)) p ≡ Some s.chart.sid
serial_there services p s e =
    get_map (λ (c : ChartState). c.sid) (charts_of services) p s.chart (get_map (λ (t : Supervised). t.chart) services p s e)

-- the same, as it is read
pub serial_read : (services : List Supervised) (p sid : ℕ) (s : Supervised) → Some s ≡ slice_get services p → sid ≡ s.chart.sid
    → slice_get (serials_of (charts_of services)) p ≡ Some sid
serial_read services p sid s e own = serial_there services p s (sym e) ∙ ap Some (sym own)

pub is_the_serial : (own sid read : ℕ) (answer : Bool) → answer ≡ nat_eq read sid → read ≡ own → Some own ≡ Some sid → answer ≡ true
is_the_serial own sid read answer e r s = search rules

-- up to a place whose serial is lower, all are; from a place whose serial is higher, all are
pub lower_up_to : (ns : List ℕ) (p m sid : ℕ) → is_rising ns ≡ true → slice_get ns p ≡ Some m → m < sid
    → (place n : ℕ) → slice_get ns place ≡ Some n → place < p + 1 → n < sid
lower_up_to ns p m sid r at lt place n e within = elim (cases_lt place p) [
  | inl before ↦ let lower : n < m = rises_behind ns place p n m r e at before in omega (arith, lower, lt)
  | inr behind ↦ let here : place ≡ p = omega (arith, behind, within) in
      let same : m ≡ n = unsome m n (sym at ∙ (ap (λ q. slice_get ns q) (sym here) ∙ e)) in omega (arith, same, lt)
]

pub higher_from : (ns : List ℕ) (p m sid : ℕ) → is_rising ns ≡ true → slice_get ns p ≡ Some m → sid < m
    → (place n : ℕ) → slice_get ns place ≡ Some n → p ≤ place → sid < n
higher_from ns p m sid r at lt place n e from = elim (cases_lt p place) [
  | inl before ↦ let higher : m < n = rises_behind ns p place m n r at e before in omega (arith, higher, lt)
  | inr behind ↦ let here : place ≡ p = omega (arith, behind, from) in
      let same : m ≡ n = unsome m n (sym at ∙ (ap (λ q. slice_get ns q) (sym here) ∙ e)) in omega (arith, same, lt)
]

-- a place between two lies below the upper one
pub in_the_middle : (low high : ℕ) → low < high → low + (high - low) / 2 < high
in_the_middle low high lt =
    let room : 0 < high - low = omega (arith, lt) in
    let half : (high - low) / 2 < high - low = div-lt_self room (lit< tt) in
    omega (arith, lt, half)

-- no place has the serial
pub none_there : (services : List Supervised) (sid : ℕ) → ((p n : ℕ) → slice_get (serials_of (charts_of services)) p ≡ Some n → n ≢ sid)
    → list_any (λ s. s.chart.sid == sid) services ≡ false
none_there [] sid h = refl
none_there (s ∷ services) sid h =
    neither_of (s.chart.sid == sid) _ (other s.chart.sid sid (h zero s.chart.sid refl)) (none_there services sid (λ p n e. h (suc p) n e))

-- the place of a serial is not empty
pub not_empty : (services : List Supervised) (p sid : ℕ) → slice_get (serials_of (charts_of services)) p ≡ Some sid → None ≡ slice_get services p
    → ⊥
not_empty [] p sid e none = search rules
not_empty (s ∷ services) zero sid e none = search rules
not_empty (s ∷ services) (suc p) sid e none = not_empty services p sid e none

-- the service there has the serial
pub own_serial : (services : List Supervised) (p sid : ℕ) (s : Supervised) → slice_get (serials_of (charts_of services)) p ≡ Some sid
    → slice_get services p ≡ Some s → s.chart.sid ≡ sid
own_serial services p sid s e there = unsome s.chart.sid sid (sym (serial_there services p s there) ∙ e)

-- the same of the states alone
pub any_chart : (services : List Supervised) (sid : ℕ)
    → list_any (λ c. c.sid == sid) (charts_of services) ≡ list_any (λ s. s.chart.sid == sid) services
any_chart [] sid = refl
any_chart (s ∷ services) sid = ap (λ b. (s.chart.sid == sid) || b) (any_chart services sid)

-- the first service of a name, by its state
pub find_chart : (name : List ℕ) (services : List Supervised)
    → option_map (λ c. c.sid) (find (λ c. bytes_eq name c.name) (charts_of services))
    ≡ option_map (λ s. s.chart.sid) (find (λ s. bytes_eq name s.chart.name) services)
find_chart name [] = refl
find_chart name (s ∷ services) = step (bytes_eq name s.chart.name) (find_chart name services)
  where
    step : (b : Bool) → option_map (λ c. c.sid) (find (λ c. bytes_eq name c.name) (charts_of services))
        ≡ option_map (λ t. t.chart.sid) (find (λ t. bytes_eq name t.chart.name) services)
        → option_map (λ c. c.sid) (cond b (Some s.chart) (find (λ c. bytes_eq name c.name) (charts_of services)))
        ≡ option_map (λ t. t.chart.sid) (cond b (Some s) (find (λ t. bytes_eq name t.chart.name) services))
    step true rest = refl
    step false rest = rest

-- the service of a serial is that at its place
pub find_there : (services : List Supervised) (p sid : ℕ) → is_rising (serials_of (charts_of services)) ≡ true
    → slice_get (serials_of (charts_of services)) p ≡ Some sid
    → find (λ s. s.chart.sid == sid) services ≡ slice_get services p
find_there [] p sid r e = search rules
find_there (s ∷ services) zero sid r e =
    ap (λ b. cond b (Some s) (find (λ t. t.chart.sid == sid) services)) (ap (λ n. n == sid) (unsome s.chart.sid sid e) ∙ itself sid)
find_there (s ∷ services) (suc p) sid r e =
    ap (λ b. cond b (Some s) (find (λ t. t.chart.sid == sid) services))
    (earlier_other s.chart.sid sid (above_place s.chart.sid (serials_of (charts_of services)) p sid
    (both_left _ (is_rising (serials_of (charts_of services))) r) e))
    ∙ find_there services p sid (both_right _ (is_rising (serials_of (charts_of services))) r) e

pub find_none : (services : List Supervised) (sid : ℕ) → list_any (λ s. s.chart.sid == sid) services ≡ false
    → find (λ s. s.chart.sid == sid) services ≡ None
find_none [] sid h = refl
find_none (s ∷ services) sid h =
    ap (λ b. cond b (Some s) (find (λ t. t.chart.sid == sid) services)) (neither_left (s.chart.sid == sid) _ h)
    ∙ find_none services sid (neither_right (s.chart.sid == sid) _ h)

-- what is true of all is true at a place
pub all_at : {X : Type 0} (P : X → Type 0) (xs : List X) (p : ℕ) (x : X) → All P xs → slice_get xs p ≡ Some x → P x
all_at P [] p x h e = search rules
all_at P (y ∷ xs) zero x h e = subst P (ap (λ o. unwrap_or o y) e) (h 0 y (omega arith))
all_at P (y ∷ xs) (suc p) x h e = all_at P xs p x (all_later P y xs h) e

-- the service of a serial took a change
set_there : (sid now : ℕ) (change : Change) (services : List Supervised) (p : ℕ) (before : Supervised) (after : ServiceView)
    (death : Option (ℕ × Exit)) (out : Out)
    → is_rising (serials_of (charts_of services)) ≡ true → slice_get (serials_of (charts_of services)) p ≡ Some sid
    → slice_get services p ≡ Some before
    → MatchesMove (changed_by change now before.chart) after.chart out → KeepsAgreeing now out.events.items (service_view before) after
    → after.chart.sid ≡ before.chart.sid
    → death ≡ death_by change out.stale now
    → TakesChange sid change now services (slice_set services p (with_view after death before))
    × GivesChange sid change now services (slice_set services p (with_view after death before)) out
set_there sid now change services p before after death out r e there gives keeps same told =
    let now_there = with_view after death before in
    let own : before.chart.sid ≡ sid = own_serial services p sid before e there in
    let one = one_reported sid change now (charts_of services) p before.chart r
    (get_map (λ (s : Supervised). s.chart) services p before there) own in
    let marks = out.events.items in (
      record {
        services = map-set (λ (s : Supervised). s.chart) services p now_there
            ∙ (ap (λ c. slice_set (charts_of services) p c) gives.chart ∙ sym one.services);
        tallies = λ deaths all.
            subst (λ (ds : List DeathOf). AllTallied (slice_set services p now_there) (deaths ++ ds)) (sym one.deaths)
            (place_tallied p services before after (changed_by change now before.chart) death deaths there gives.chart same
            (change_joins change now before.chart out.stale death gives.stale told) r all);
      },
      record {
        events = ap (λ ms. map (service_mark sid) ms) gives.marks
            ∙ (ap (λ n. map (service_mark n) (changed_by change now before.chart).marks) (sym own) ∙ sym one.events);
        orders = gives.orders ∙ sym one.orders;
        stale = gives.stale ∙ sym one.stale;
        agrees = λ h at all.
            subst (λ (ms : List Moment). AllAgree (slice_set services p now_there) (h ++ ms))
            (ap (λ n. map (λ mark. moment.Event n mark) marks) own ∙ sym (moments_of_marks sid marks))
            (place_agrees now p services before now_there marks h there same r
            (keeps h at (all_at (λ (s : Supervised). AgreesWith s h) services p before all there)) all);
      },
    )

pub changed_there : (sid now : ℕ) (change : Change) (services new : List Supervised) (p : ℕ) (before : Supervised) (after : ServiceView)
    (death : Option (ℕ × Exit)) (out : Out)
    → is_rising (serials_of (charts_of services)) ≡ true → slice_get (serials_of (charts_of services)) p ≡ Some sid
    → slice_get services p ≡ Some before
    → MatchesMove (changed_by change now before.chart) after.chart out → KeepsAgreeing now out.events.items (service_view before) after
    → after.chart.sid ≡ before.chart.sid
    → death ≡ death_by change out.stale now → new ≡ slice_set services p (with_view after death before)
    → TakesChange sid change now services new × GivesChange sid change now services new out
changed_there sid now change services new p before after death out r e there gives keeps same told is =
    subst (λ (x : List Supervised). TakesChange sid change now services x × GivesChange sid change now services x out) (sym is)
    (set_there sid now change services p before after death out r e there gives keeps same told)
