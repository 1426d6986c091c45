use Rattle.std.proofs.Common.{◌≡◌, ◌+◌, ◌<◌, ◌^◌, ◌==◌, ℕ, zero, suc, List, [], ◌∷◌, All, take, length, sym, ap, subst, arith, rules}
use Rattle.std.specs.Prelude.{Option, Some, slice_get, unwrap_or}
use Rattle.std.specs.List.{list_any}
use Rattle.std.proofs.lemmas.List.Elements.{All-weaker}
use Rattle.supervise_core.specs.declared.chart_state.ChartState.{ChartState}
use Rattle.supervise_core.specs.Chart.{is_due}
use Rattle.supervise_core.specs.Service.{Supervised}
use Rattle.svscan_core.specs.Table.{charts_of}
use Rattle.svscan_core.specs.Work.{AreDue}
use Rattle.svscan_core.proofs.Agreeing.{all_of, all_later}
use Rattle.svscan_core.proofs.Dropping.{all_taken}
use Rattle.scan_tests.proofs.tables.are_fit.Goals as goal

none_taken : (P : ChartState → Type 0) (cs : List ChartState) → All P (take 0 cs)
none_taken P [] = λ k d lt. absurd (omega (arith, lt))
none_taken P (c ∷ cs) = λ k d lt. absurd (omega (arith, lt))

-- what is true of the front, and of the next one
one_after : (P : ChartState → Type 0) (services : List Supervised) (p : ℕ) (s : Supervised) → slice_get services p ≡ Some s → P s.chart
    → All P (take p (charts_of services)) → All P (take (suc p) (charts_of services))
one_after P [] p s e h rest = search rules
one_after P (x ∷ xs) zero s e h rest =
    all_of P x.chart (take 0 (charts_of xs)) (subst P (sym (ap (λ (o : Option Supervised). (unwrap_or o x).chart) e)) h)
    (none_taken P (charts_of xs))
one_after P (x ∷ xs) (suc p) s e h rest =
    all_of P x.chart (take (suc p) (charts_of xs)) (rest 0 x.chart (omega arith))
    (one_after P xs p s e h (all_later P x.chart (take p (charts_of xs)) rest))

one_more : (P : ChartState → Type 0) (services : List Supervised) (p : ℕ) (s : Supervised) → slice_get services p ≡ Some s → P s.chart
    → All P (take p (charts_of services)) → All P (take (p + 1) (charts_of services))
one_more P services p s e h rest =
    let next : suc p ≡ p + 1 = omega arith in
    subst (λ (n : ℕ). All P (take n (charts_of services))) next (one_after P services p s e h rest)

pub loop-place-init : goal.loop-place-init
loop-place-init g c = record {
  few = none_taken (λ x. x.generation + 2 < 2 ^ 64) (charts_of c.args.registry.now.shown.services);
  due = none_taken (λ x. list_any (λ sid. sid == x.sid) c.args.due.now ≡ is_due c.args.now x.timer) (charts_of c.args.registry.now.shown.services);
}

pub loop-place-preserved : goal.loop-place-preserved
loop-place-preserved g c =
    let services = c.args.registry.now.shown.services in
    let there : slice_get services c.loop-place.place ≡ Some c.in-Some.service.now = sym c.in-Some.ensures in
    record {
      few = one_more (λ x. x.generation + 2 < 2 ^ 64) services c.loop-place.place c.in-Some.service.now there
          (subst (λ (x : ChartState). x.generation + 2 < 2 ^ 64) c.chart.ensures (c.is_fit.ensures.few c.if-not-is_fit.false))
          c.loop-place.invariant.few;
      due = one_more (λ x. list_any (λ sid. sid == x.sid) c.args.due.now ≡ is_due c.args.now x.timer) services c.loop-place.place
          c.in-Some.service.now there
          (subst (λ (x : ChartState). list_any (λ sid. sid == x.sid) c.args.due.now ≡ is_due c.args.now x.timer) c.chart.ensures
          (c.is_fit.ensures.due c.if-not-is_fit.false)) c.loop-place.invariant.due;
    }

-- all services were looked at
whole : (g : _) (c : goal.After-loop-place g)
    → take c.loop-place.place (charts_of c.args.registry.now.shown.services) ≡ charts_of c.args.registry.now.shown.services
whole g c =
    let count : c.len-place-end.result ≡ length c.args.registry.now.shown.services = c.len-place-end.ensures.count in
    all_taken c.args.registry.now.shown.services c.loop-place.place (omega (arith, c.loop-place-test.false, count))

all_few : (g : _) (c : goal.After-loop-place g) → All (λ x. x.generation + 2 < 2 ^ 64) (charts_of c.args.registry.now.shown.services)
all_few g c = subst (λ (cs : List ChartState). All (λ x. x.generation + 2 < 2 ^ 64) cs) (whole g c) c.loop-place.invariant.few

pub returns-clause-few : goal.returns-clause-few
returns-clause-few g c = λ e. all_few g c

pub returns-clause-fewer : goal.returns-clause-fewer
returns-clause-fewer g c = λ e. All-weaker (λ x. x.generation + 2 < 2 ^ 64) (λ x. x.generation + 1 < 2 ^ 64) (λ x h. omega (arith, h))
    (charts_of c.args.registry.now.shown.services) (all_few g c)

pub returns-clause-due : goal.returns-clause-due
returns-clause-due g c = λ e. subst (λ (cs : List ChartState). AreDue c.args.due.now c.args.now cs) (whole g c) c.loop-place.invariant.due
