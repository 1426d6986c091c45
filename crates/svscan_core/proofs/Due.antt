-- Where no timer is due, no service takes its rule.
use Rattle.std.proofs.Common.{◌≡◌, ◌∙◌, ℕ, zero, suc, List, [], ◌∷◌, ◌++◌, true, false, ◌==◌, cond, refl, sym, ap, subst, arith, length}
use Rattle.std.proofs.Common.{append-nil, rules}
use Rattle.supervise_core.specs.declared.chart_state.ChartState.{ChartState}
use Rattle.supervise_core.specs.ChartState.{no_move}
use Rattle.supervise_core.specs.Chart.{fire_move, is_due, timer_rule}
use Rattle.svscan_core.specs.Deaths.{DeathOf, AllTallied}
use Rattle.svscan_core.specs.Moves.{events_of_move, services_after, events_after, orders_after}
use Rattle.svscan_core.specs.Moving.{StepSoFar, Takes}
use Rattle.svscan_core.specs.Table.{charts_of}
use Rattle.svscan_core.specs.Work.{AreDue}
use Rattle.svscan_core.proofs.Tallied.{no_timer_deaths}

pub empty_list : {X : Type 0} (xs : List X) → (length xs == 0) ≡ true → xs ≡ []
empty_list [] h = refl
empty_list (x ∷ xs) h = search rules

untouched : (now : ℕ) (c : ChartState) → is_due now c.timer ≡ false → fire_move now c ≡ no_move c
untouched now c h = ap (λ b. cond b (timer_rule c.phase c) (no_move c)) h

later_ones : (now : ℕ) (c : ChartState) (cs : List ChartState) → AreDue [] now (c ∷ cs) → AreDue [] now cs
later_ones now c cs h = λ k d lt. h (suc k) d (omega (arith, lt))

unfired : (now : ℕ) (cs : List ChartState) → AreDue [] now cs → services_after (fire_move now) cs ≡ cs
unfired now [] h = refl
unfired now (c ∷ cs) h = λ i. (untouched now c (sym (h zero c (omega arith))) i).chart ∷ unfired now cs (later_ones now c cs h) i

unfired_events : (now : ℕ) (cs : List ChartState) → AreDue [] now cs → events_after (fire_move now) cs ≡ []
unfired_events now [] h = refl
unfired_events now (c ∷ cs) h = (λ i. events_of_move c.sid (untouched now c (sym (h zero c (omega arith))) i) ++ events_after (fire_move now) cs)
    ∙ unfired_events now cs (later_ones now c cs h)

unfired_orders : (now : ℕ) (cs : List ChartState) → AreDue [] now cs → orders_after (fire_move now) cs ≡ []
unfired_orders now [] h = refl
unfired_orders now (c ∷ cs) h = (λ i. (untouched now c (sym (h zero c (omega arith))) i).orders ++ orders_after (fire_move now) cs)
    ∙ unfired_orders now cs (later_ones now c cs h)

-- a step in which none is due
pub none_fires : (now : ℕ) (due : List ℕ) (m : StepSoFar) → due ≡ [] → AreDue due now (charts_of m.services) → Takes now (fire_move now) m m
none_fires now due m none h =
    let nobody = subst (λ (sids : List ℕ). AreDue sids now (charts_of m.services)) none h in
    record {
      services = sym (unfired now (charts_of m.services) nobody);
      events = sym (ap (λ es. m.events ++ es) (unfired_events now (charts_of m.services) nobody) ∙ append-nil m.events);
      orders = sym (ap (λ os. m.orders ++ os) (unfired_orders now (charts_of m.services) nobody) ∙ append-nil m.orders);
      agrees = λ history at all. all;
      timers = λ ts a. a;
      tallies = λ deaths all.
          subst (λ (ds : List DeathOf). AllTallied m.services ds)
          (sym (ap (λ ds. deaths ++ ds) (no_timer_deaths now (charts_of m.services)) ∙ append-nil deaths)) all;
    }
