-- The service of a serial takes a change, and every other one stays.
use Rattle.std.proofs.Common.{◌≡◌, ℕ, zero, suc, List, [], ◌∷◌, ◌++◌, append-nil, Bool, true, false, ◌||◌, ◌==◌, refl, sym, subst, ◌∙◌, ap, rules}
use Rattle.std.specs.Prelude.{Some, slice_get}
use Rattle.std.specs.List.{list_any}
use Rattle.deadlines.specs.Timers.{is_rising}
use Rattle.supervise_core.specs.declared.chart_state.ChartState.{ChartState}
use Rattle.supervise_core.specs.declared.change.Change.{Change}
use Rattle.supervise_core.specs.Service.{Supervised}
use Rattle.svscan_core.specs.Moving.{StepSoFar, Takes, TakesAt}
use Rattle.supervise_core.specs.Chart.{changed_by}
use Rattle.svscan_core.specs.Deaths.{DeathOf, AllTallied}
use Rattle.svscan_core.specs.Work.{change_move_at}
use Rattle.svscan_core.specs.Table.{charts_of, serials_of}
use Rattle.svscan_core.proofs.OnePlace.{IsOne, one_reported, none_reported}
use Rattle.svscan_core.proofs.Serials.{itself}

-- the service at the place of a serial
pub record IsAt (cs : List ChartState) (p sid : ℕ) : Type 0 where
  pub state : ChartState
  pub there : slice_get cs p ≡ Some state
  pub own : state.sid ≡ sid

unsome : (m n : ℕ) → Some m ≡ Some n → m ≡ n
unsome m n e = search rules

pub state_found : (cs : List ChartState) (p sid : ℕ) → slice_get (serials_of cs) p ≡ Some sid → IsAt cs p sid
state_found [] p sid e = search rules
state_found (c ∷ cs) zero sid e = record { state = c; there = refl; own = unsome c.sid sid e }
state_found (c ∷ cs) (suc p) sid e = let rest = state_found cs p sid e in record { state = rest.state; there = rest.there; own = rest.own }

-- it takes the report
pub one_at : (sid : ℕ) (change : Change) (now : ℕ) (cs : List ChartState) (p : ℕ) (at : IsAt cs p sid) → is_rising (serials_of cs) ≡ true
    → IsOne (change_move_at sid change now) cs p at.state.sid (changed_by change now at.state)
one_at sid change now cs p at r = one_reported sid change now cs p at.state r at.there at.own

-- and there is one
pub any_found : (cs : List ChartState) (p sid : ℕ) → slice_get (serials_of cs) p ≡ Some sid → list_any (λ c. c.sid == sid) cs ≡ true
any_found [] p sid e = search rules
any_found (c ∷ cs) zero sid e = ap (λ b. b || list_any (λ s. s.sid == sid) cs) (ap (λ n. n == sid) (unsome c.sid sid e) ∙ itself sid)
any_found (c ∷ cs) (suc p) sid e = or_true (c.sid == sid) _ (any_found cs p sid e)
  where
    or_true : (a b : Bool) → b ≡ true → (a || b) ≡ true
    or_true true b h = refl
    or_true false b h = h

-- the serials tell whether there is one
any_serial : (cs : List ChartState) (sid : ℕ) → list_any (λ c. c.sid == sid) cs ≡ list_any (λ n. n == sid) (serials_of cs)
any_serial [] sid = refl
any_serial (c ∷ cs) sid = ap (λ b. (c.sid == sid) || b) (any_serial cs sid)

any_supervised : (services : List Supervised) (sid : ℕ)
    → list_any (λ s. s.chart.sid == sid) services ≡ list_any (λ c. c.sid == sid) (charts_of services)
any_supervised [] sid = refl
any_supervised (s ∷ services) sid = ap (λ b. (s.chart.sid == sid) || b) (any_supervised services sid)

pub none_so_far : (services : List Supervised) (cs : List ChartState) (sid : ℕ) → serials_of cs ≡ serials_of (charts_of services)
    → list_any (λ s. s.chart.sid == sid) services ≡ false → list_any (λ c. c.sid == sid) cs ≡ false
none_so_far services cs sid kept none =
    any_serial cs sid ∙ (ap (λ ns. list_any (λ n. n == sid) ns) kept
    ∙ (sym (any_serial (charts_of services) sid) ∙ (sym (any_supervised services sid) ∙ none)))

-- one took the change, so all took it
pub one_takes : (now sid : ℕ) (change : Change) (p : ℕ) (old new : StepSoFar) (at : IsAt (charts_of old.services) p sid)
    → is_rising (serials_of (charts_of old.services)) ≡ true
    → TakesAt now p at.state (changed_by change now at.state) old new → Takes now (change_move_at sid change now) old new
one_takes now sid change p old new at r t =
    let one = one_at sid change now (charts_of old.services) p at r in
    record {
      services = t.services ∙ sym one.services;
      events = t.events ∙ ap (λ es. old.events ++ es) (sym one.events);
      orders = t.orders ∙ ap (λ os. old.orders ++ os) (sym one.orders);
      agrees = t.agrees;
      timers = t.timers;
      tallies = λ deaths all. subst (λ (ds : List DeathOf). AllTallied new.services (deaths ++ ds)) (sym one.deaths) (t.tallies deaths all);
    }

-- none has the serial, so all stay
pub none_takes : (now sid : ℕ) (change : Change) (m : StepSoFar) → list_any (λ c. c.sid == sid) (charts_of m.services) ≡ false
    → Takes now (change_move_at sid change now) m m
none_takes now sid change m none =
    let rest = none_reported sid change now (charts_of m.services) none in
    record {
      services = sym rest.services;
      events = sym (ap (λ es. m.events ++ es) rest.events ∙ append-nil m.events);
      orders = sym (ap (λ os. m.orders ++ os) rest.orders ∙ append-nil m.orders);
      agrees = λ history at all. all;
      timers = λ ts a. a;
      tallies = λ deaths all. subst (λ (ds : List DeathOf). AllTallied m.services ds)
          (sym (ap (λ ds. deaths ++ ds) rest.deaths ∙ append-nil deaths)) all;
    }
