-- Where one service takes a move and every other one stays, the step needs to look at that one alone.
use Rattle.std.proofs.Common.{◌≡◌, ℕ, zero, suc, List, [], ◌∷◌, ◌++◌, Bool, true, false, ◌||◌, ◌==◌, cond, refl, sym, subst, map, ◌∙◌, ap, rules}
use Rattle.std.proofs.Common.{append-nil}
use Rattle.std.specs.Prelude.{Option, Some, None, nat_lt, slice_get, slice_set, unwrap_or}
use Rattle.std.specs.List.{list_any, list_all}
use Rattle.deadlines.specs.Timers.{is_rising}
use Rattle.supervise_core.specs.declared.chart_state.ChartState.{ChartState}
use Rattle.supervise_core.specs.declared.change.Change.{Change}
use Rattle.supervise_core.specs.ChartState.{Moved, no_move}
use Rattle.supervise_core.specs.Chart.{changed_by}
use Rattle.svscan_core.specs.Deaths.{death_of, deaths_after}
use Rattle.svscan_core.specs.Work.{change_move_at}
use Rattle.svscan_core.specs.Moves.{events_of_move, services_after, events_after, orders_after}
use Rattle.svscan_core.specs.Table.{serials_of}
use Rattle.svscan_core.proofs.Truth.{both_left, both_right, neither_left, neither_right}
use Rattle.svscan_core.proofs.Serials.{itself, later_other, earlier_other}

-- what a move of all services gives, where it is that of one service
pub record IsOne (move : ChartState → Moved) (cs : List ChartState) (p own : ℕ) (moved : Moved) : Type 0 where
  pub services : services_after move cs ≡ slice_set cs p moved.chart
  pub events : events_after move cs ≡ events_of_move own moved
  pub orders : orders_after move cs ≡ moved.orders
  pub deaths : deaths_after move cs ≡ map (death_of own) moved.deaths
  pub stale : list_any (λ c. (move c).stale) cs ≡ moved.stale

-- what a move of all services gives, where each stays
pub record IsNone (move : ChartState → Moved) (cs : List ChartState) : Type 0 where
  pub services : services_after move cs ≡ cs
  pub events : events_after move cs ≡ []
  pub orders : orders_after move cs ≡ []
  pub deaths : deaths_after move cs ≡ []
  pub stale : list_any (λ c. (move c).stale) cs ≡ false

-- a service that stays, before the others
none_more : (move : ChartState → Moved) (c : ChartState) (cs : List ChartState) → move c ≡ no_move c → IsNone move cs → IsNone move (c ∷ cs)
none_more move c cs e rest = record {
  services = λ i. (e i).chart ∷ rest.services i;
  events = λ i. events_of_move c.sid (e i) ++ rest.events i;
  orders = λ i. (e i).orders ++ rest.orders i;
  deaths = λ i. map (death_of c.sid) (e i).deaths ++ rest.deaths i;
  stale = λ i. (e i).stale || rest.stale i;
}

one_later : (move : ChartState → Moved) (c : ChartState) (cs : List ChartState) (p own : ℕ) (moved : Moved) → move c ≡ no_move c
    → IsOne move cs p own moved → IsOne move (c ∷ cs) (suc p) own moved
one_later move c cs p own moved e rest = record {
  services = λ i. (e i).chart ∷ rest.services i;
  events = λ i. events_of_move c.sid (e i) ++ rest.events i;
  orders = λ i. (e i).orders ++ rest.orders i;
  deaths = λ i. map (death_of c.sid) (e i).deaths ++ rest.deaths i;
  stale = λ i. (e i).stale || rest.stale i;
}

or_none : (b : Bool) → (b || false) ≡ b
or_none true = refl
or_none false = refl

one_here : (move : ChartState → Moved) (c : ChartState) (cs : List ChartState) (moved : Moved) → move c ≡ moved → IsNone move cs
    → IsOne move (c ∷ cs) zero c.sid moved
one_here move c cs moved e rest = record {
  services = λ i. (e i).chart ∷ rest.services i;
  events = (λ i. events_of_move c.sid (e i) ++ rest.events i) ∙ append-nil (events_of_move c.sid moved);
  orders = (λ i. (e i).orders ++ rest.orders i) ∙ append-nil moved.orders;
  deaths = (λ i. map (death_of c.sid) (e i).deaths ++ rest.deaths i) ∙ append-nil (map (death_of c.sid) moved.deaths);
  stale = (λ i. (e i).stale || rest.stale i) ∙ or_none moved.stale;
}

-- a report of another service
other_stays : (sid : ℕ) (change : Change) (now : ℕ) (c : ChartState) → (c.sid == sid) ≡ false → change_move_at sid change now c ≡ no_move c
other_stays sid change now c e = ap (λ b. cond b (changed_by change now c) (no_move c)) e

own_moves : (sid : ℕ) (change : Change) (now : ℕ) (c : ChartState) → (c.sid == sid) ≡ true
    → change_move_at sid change now c ≡ changed_by change now c
own_moves sid change now c e = ap (λ b. cond b (changed_by change now c) (no_move c)) e

-- no service has a serial below all of theirs
none_above : (sid : ℕ) (change : Change) (now : ℕ) (cs : List ChartState) → list_all (λ m. nat_lt sid m) (serials_of cs) ≡ true
    → IsNone (change_move_at sid change now) cs
none_above sid change now [] h = record { services = refl; events = refl; orders = refl; deaths = refl; stale = refl }
none_above sid change now (c ∷ cs) h =
    none_more (change_move_at sid change now) c cs (other_stays sid change now c (later_other sid c.sid (both_left (nat_lt sid c.sid) _ h)))
    (none_above sid change now cs (both_right (nat_lt sid c.sid) _ h))

-- no service has the serial
pub none_reported : (sid : ℕ) (change : Change) (now : ℕ) (cs : List ChartState) → list_any (λ c. c.sid == sid) cs ≡ false
    → IsNone (change_move_at sid change now) cs
none_reported sid change now [] h = record { services = refl; events = refl; orders = refl; deaths = refl; stale = refl }
none_reported sid change now (c ∷ cs) h =
    none_more (change_move_at sid change now) c cs (other_stays sid change now c (neither_left (c.sid == sid) _ h))
    (none_reported sid change now cs (neither_right (c.sid == sid) _ h))

-- the serial at a place
pub serial_at : (cs : List ChartState) (p : ℕ) (c : ChartState) → slice_get cs p ≡ Some c → slice_get (serials_of cs) p ≡ Some c.sid
serial_at [] p c e = search rules
serial_at (x ∷ cs) zero c e = λ i. some_sid (e i)
  where
    some_sid : Option ChartState → Option ℕ
    some_sid None = None
    some_sid (Some s) = Some s.sid
serial_at (x ∷ cs) (suc p) c e = serial_at cs p c e

-- a serial behind others is above them
pub above_place : (s : ℕ) (ns : List ℕ) (p n : ℕ) → list_all (λ m. nat_lt s m) ns ≡ true → slice_get ns p ≡ Some n → nat_lt s n ≡ true
above_place s [] p n h e = search rules
above_place s (x ∷ ns) zero n h e = ap (λ m. nat_lt s m) (sym (ap (λ o. unwrap_or o x) e)) ∙ both_left (nat_lt s x) _ h
above_place s (x ∷ ns) (suc p) n h e = above_place s ns p n (both_right (nat_lt s x) _ h) e

-- the service of the serial is that at one place: it alone takes the change
pub one_reported : (sid : ℕ) (change : Change) (now : ℕ) (cs : List ChartState) (p : ℕ) (c : ChartState) → is_rising (serials_of cs) ≡ true
    → slice_get cs p ≡ Some c → c.sid ≡ sid → IsOne (change_move_at sid change now) cs p c.sid (changed_by change now c)
one_reported sid change now [] p c r e own = search rules
one_reported sid change now (x ∷ cs) zero c r e own =
    let is : x ≡ c = ap (λ o. unwrap_or o x) e in
    let its : x.sid ≡ sid = ap (λ s. s.sid) is ∙ own in
    subst (λ (s : ChartState). IsOne (change_move_at sid change now) (x ∷ cs) zero s.sid (changed_by change now s)) is
    (one_here (change_move_at sid change now) x cs (changed_by change now x)
    (own_moves sid change now x (ap (λ n. n == sid) its ∙ itself sid))
    (none_above sid change now cs (ap (λ n. list_all (λ m. nat_lt n m) (serials_of cs)) (sym its) ∙ both_left _ (is_rising (serials_of cs)) r)))
one_reported sid change now (x ∷ cs) (suc p) c r e own =
    one_later (change_move_at sid change now) x cs p c.sid (changed_by change now c)
    (other_stays sid change now x (earlier_other x.sid sid
    (above_place x.sid (serials_of cs) p sid (both_left _ (is_rising (serials_of cs)) r) (serial_at cs p c e ∙ ap Some own))))
    (one_reported sid change now cs p c (both_right _ (is_rising (serials_of cs)) r) e own)
