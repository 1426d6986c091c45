use Rattle.std.proofs.Common.{◌≡◌, ◌∙◌, ℕ, ◌+◌, ◌<◌, List, [], ◌∷◌, ◌++◌, map, length, take, get_or, sym, ap, append_assoc}
use Rattle.std.proofs.lemmas.List.{map-append, take_more}
use Rattle.deadlines.specs.declared.timer.TimerChange.{TimerChange}
use Rattle.deadlines.specs.declared.timer.TimerChange.TheVariants.{Clear}
use Rattle.supervise_core.specs.declared.chart_state.ChartState.{ChartState}
use Rattle.supervise_core.specs.Service.{Supervised}
use Rattle.svscan_core.specs.Moving.{timers_of}
use Rattle.svscan_core.specs.Table.{charts_of}
use Rattle.svscan_core.specs.Timers.{timer_change_of}
use Rattle.svscan_core.proofs.pending.list_timers.Goals as goal

-- the timer of one more service that comes
comes : (touched sids before after : List TimerChange) (added : List Supervised) (i : ℕ) (s : Supervised) (chart : ChartState) (change : TimerChange)
    → i < length added → s ≡ get_or added i s → chart ≡ s.chart → change ≡ timer_change_of chart → after ≡ before ++ change ∷ []
    → before ≡ touched ++ (sids ++ map timer_change_of (charts_of (take i added)))
    → after ≡ touched ++ (sids ++ map timer_change_of (charts_of (take (i + 1) added)))
comes touched sids before after added i s chart change within at is told pushed was =
    let one : change ≡ timer_change_of s.chart = told ∙ ap timer_change_of is in
    let so_far = map timer_change_of (charts_of (take i added)) in
    let more : charts_of (take (i + 1) added) ≡ charts_of (take i added) ++ s.chart ∷ [] =
    ap charts_of (take_more added i s within ∙ ap (λ x. take i added ++ x ∷ []) (sym at))
    ∙ map-append (λ (x : Supervised). x.chart) (take i added) (s ∷ []) in
    let last : map timer_change_of (charts_of (take (i + 1) added)) ≡ so_far ++ timer_change_of s.chart ∷ [] =
    ap (map timer_change_of) more ∙ map-append timer_change_of (charts_of (take i added)) (s.chart ∷ []) in
    pushed
    ∙ ((λ k. was k ++ one k ∷ [])
    ∙ (append_assoc touched (sids ++ so_far) (timer_change_of s.chart ∷ [])
    ∙ ap (λ ts. touched ++ ts) (append_assoc sids so_far (timer_change_of s.chart ∷ []) ∙ ap (λ ts. sids ++ ts) (sym last))))

pub loop-service-preserved : goal.loop-service-preserved
loop-service-preserved g c =
    let is = c.as_slice-service-items.ensures.value in
    comes (timers_of c.args.moves.now.touched.items) (map (λ sid. Clear sid) c.args.scan.now.dropped_sids.items) c.loop-service.timers.items
    c.push-in-loop-service.new.self.items c.args.scan.now.added.items c.loop-service.service-index c.service-item.result
    c.chart-in-loop-service.result c.timer_change-in-loop-service.result
    (rw is at c.loop-service-test.true) (rw is at c.service-item.is) c.chart-in-loop-service.ensures c.timer_change-in-loop-service.ensures
    c.in_ok-push-3.ensures.items c.loop-service.invariant
