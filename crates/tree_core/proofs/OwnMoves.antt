-- A move of all services, as one of them sees it.
use Rattle.std.proofs.Common.{◌≡◌, refl, ap, ◌∙◌, ℕ, List, [], ◌∷◌, ◌++◌, ◌==◌, Bool, true, false, cond, map, filter}
use Rattle.std.specs.List.{flat_map}
use Rattle.std.proofs.lemmas.List.Elements.{filter-append}
use Rattle.std.proofs.lemmas.List.{map-append}
use Rattle.s6_events.specs.declared.mark.Mark.{Mark}
use Rattle.s6_events.specs.declared.order.Order.{Order}
use Rattle.supervise_core.specs.declared.chart_state.ChartState.{ChartState}
use Rattle.supervise_core.specs.ChartState.{Moved}
use Rattle.svscan_core.specs.declared.event.Event.{Event}
use Rattle.svscan_core.specs.Moves.{service_mark, events_of_move, events_after, orders_after}
use Rattle.tree_core.specs.Taken.{is_service, services_of, is_event_of, marks_of, is_order_of, orders_of}
use Rattle.tree_core.proofs.Owners.{AllFor, ForIt}

-- of a list, what the one service gave: all of it, or nothing
all_kept : (sid : ℕ) (n : ℕ) (orders : List Order) → (n == sid) ≡ true → AllFor n orders → orders_of sid orders ≡ orders
all_kept sid n [] e h = refl
all_kept sid n (order ∷ orders) e h =
    ap (λ b. cond b (order ∷ orders_of sid orders) (orders_of sid orders)) (ap (λ o. o == sid) h.0 ∙ e)
    ∙ ap (λ os. order ∷ os) (all_kept sid n orders e h.1)

none_kept : (sid : ℕ) (n : ℕ) (orders : List Order) → (n == sid) ≡ false → AllFor n orders → orders_of sid orders ≡ []
none_kept sid n [] e h = refl
none_kept sid n (order ∷ orders) e h =
    ap (λ b. cond b (order ∷ orders_of sid orders) (orders_of sid orders)) (ap (λ o. o == sid) h.0 ∙ e)
    ∙ none_kept sid n orders e h.1

pub orders_kept : (sid n : ℕ) (b : Bool) (orders : List Order) → (n == sid) ≡ b → AllFor n orders → orders_of sid orders ≡ cond b orders []
orders_kept sid n true orders e h = all_kept sid n orders e h
orders_kept sid n false orders e h = none_kept sid n orders e h

all_marks : (sid n : ℕ) (marks : List Mark) → (n == sid) ≡ true → marks_of sid (map (service_mark n) marks) ≡ marks
all_marks sid n [] e = refl
all_marks sid n (mark ∷ marks) e =
    ap (λ b. map (λ (x : Event). x.mark) (cond b (service_mark n mark ∷ filter (is_event_of sid) (map (service_mark n) marks))
    (filter (is_event_of sid) (map (service_mark n) marks)))) e
    ∙ ap (λ ms. mark ∷ ms) (all_marks sid n marks e)

no_marks : (sid n : ℕ) (marks : List Mark) → (n == sid) ≡ false → marks_of sid (map (service_mark n) marks) ≡ []
no_marks sid n [] e = refl
no_marks sid n (mark ∷ marks) e =
    ap (λ b. map (λ (x : Event). x.mark) (cond b (service_mark n mark ∷ filter (is_event_of sid) (map (service_mark n) marks))
    (filter (is_event_of sid) (map (service_mark n) marks)))) e
    ∙ no_marks sid n marks e

pub marks_kept : (sid n : ℕ) (b : Bool) (marks : List Mark) → (n == sid) ≡ b → marks_of sid (map (service_mark n) marks) ≡ cond b marks []
marks_kept sid n true marks e = all_marks sid n marks e
marks_kept sid n false marks e = no_marks sid n marks e

-- lists one behind the other
pub marks_behind : (sid : ℕ) (xs ys : List Event) → marks_of sid (xs ++ ys) ≡ marks_of sid xs ++ marks_of sid ys
marks_behind sid xs ys =
    ap (map (λ (e : Event). e.mark)) (filter-append (is_event_of sid) xs ys)
    ∙ map-append (λ (e : Event). e.mark) (filter (is_event_of sid) xs) (filter (is_event_of sid) ys)

pub orders_behind : (sid : ℕ) (xs ys : List Order) → orders_of sid (xs ++ ys) ≡ orders_of sid xs ++ orders_of sid ys
orders_behind sid xs ys = filter-append (is_order_of sid) xs ys

pub own_behind : (sid : ℕ) (xs ys : List ChartState) → services_of sid (xs ++ ys) ≡ services_of sid xs ++ services_of sid ys
own_behind sid xs ys = filter-append (is_service sid) xs ys

-- the services of the serial, after a map that keeps serials
pub own_mapped : (f : ChartState → ChartState) (sid : ℕ) → ((c : ChartState) → (f c).sid ≡ c.sid) → (cs : List ChartState)
    → services_of sid (map f cs) ≡ map f (services_of sid cs)
own_mapped f sid keeps [] = refl
own_mapped f sid keeps (c ∷ cs) =
    ap (λ n. cond (n == sid) (f c ∷ services_of sid (map f cs)) (services_of sid (map f cs))) (keeps c)
    ∙ by (c.sid == sid) (own_mapped f sid keeps cs)
  where
    by : (b : Bool) → services_of sid (map f cs) ≡ map f (services_of sid cs)
        → cond b (f c ∷ services_of sid (map f cs)) (services_of sid (map f cs)) ≡ map f (cond b (c ∷ services_of sid cs) (services_of sid cs))
    by true rest = ap (λ xs. f c ∷ xs) rest
    by false rest = rest

pub marks_moved : (move : ChartState → Moved) (sid : ℕ) (cs : List ChartState)
    → marks_of sid (events_after move cs) ≡ flat_map (λ (c : ChartState). (move c).marks) (services_of sid cs)
marks_moved move sid [] = refl
marks_moved move sid (c ∷ cs) = marks_behind sid (events_of_move c.sid (move c)) (events_after move cs)
    ∙ by (c.sid == sid) refl (marks_moved move sid cs)
  where
    by : (b : Bool) → (c.sid == sid) ≡ b → marks_of sid (events_after move cs) ≡ flat_map (λ (x : ChartState). (move x).marks) (services_of sid cs)
        → marks_of sid (events_of_move c.sid (move c)) ++ marks_of sid (events_after move cs)
        ≡ flat_map (λ (x : ChartState). (move x).marks) (cond b (c ∷ services_of sid cs) (services_of sid cs))
    by true e rest = λ i. marks_kept sid c.sid true (move c).marks e i ++ rest i
    by false e rest = λ i. marks_kept sid c.sid false (move c).marks e i ++ rest i

pub orders_moved : (move : ChartState → Moved) (sid : ℕ) → ((c : ChartState) → ForIt c (move c)) → (cs : List ChartState)
    → orders_of sid (orders_after move cs) ≡ orders_after move (services_of sid cs)
orders_moved move sid own_orders [] = refl
orders_moved move sid own_orders (c ∷ cs) = orders_behind sid (move c).orders (orders_after move cs)
    ∙ by (c.sid == sid) refl (orders_moved move sid own_orders cs)
  where
    by : (b : Bool) → (c.sid == sid) ≡ b → orders_of sid (orders_after move cs) ≡ orders_after move (services_of sid cs)
        → orders_of sid (move c).orders ++ orders_of sid (orders_after move cs)
        ≡ orders_after move (cond b (c ∷ services_of sid cs) (services_of sid cs))
    by true e rest = λ i. orders_kept sid c.sid true (move c).orders e (own_orders c) i ++ rest i
    by false e rest = λ i. orders_kept sid c.sid false (move c).orders e (own_orders c) i ++ rest i
