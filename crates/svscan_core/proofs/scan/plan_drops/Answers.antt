use Rattle.std.proofs.Common.{◌≡◌, ◌++◌, take, filter, ◌<◌, ◌∙◌, sym, ap, arith, length}
use Rattle.std.specs.Prelude.{Some, slice_get, option_map}
use Rattle.std.proofs.lemmas.Option.{none-some}
use Rattle.supervise_core.specs.Service.{Supervised, ServiceView, service_view}
use Rattle.svscan_core.specs.Moving.{with_changes}
use Rattle.svscan_core.specs.Table.{charts_of, names_of, serials_of}
use Rattle.svscan_core.specs.Scan.{stays, leaves}
use Rattle.svscan_core.proofs.Dropping.{one_stays, one_leaves, all_taken}
use Rattle.svscan_core.proofs.Places.{get_map, stands_at}
use Rattle.svscan_core.proofs.Taking.{stood, length_touched}
use Rattle.svscan_core.proofs.scan.plan_drops.Goals.{in-Some+then-is_retained, in-Some+else-is_retained+in_ok-drop_service, in_default}
use Rattle.svscan_core.proofs.scan.plan_drops.Goals as goal

pub loop-place-preserved : goal.loop-place-preserved
loop-place-preserved g c =
    let ss = with_changes c.args.slots.now.services c.args.touched.now in
    let so_far = c.loop-place.invariant in
    let at : (b : ServiceView) → option_map (λ s. s.now) c.standing_at.result ≡ Some b → slice_get (charts_of ss) c.loop-place.place ≡ Some b.chart =
    λ b is.
    let old = stood (slice_get ss c.loop-place.place) b (sym is ∙ c.standing_at.ensures) in
    get_map (λ (t : Supervised). t.chart) ss c.loop-place.place old.0 old.1 ∙ ap (λ (x : ServiceView). Some x.chart) old.2 in
    elim c.match-standing_at.branch [
      | in-Some+then-is_retained w ↦
          let there : slice_get (charts_of ss) c.loop-place.place ≡ Some w.chart-chart.result =
          at w.in-Some.standing.now (ap (option_map (λ s. s.now)) w.in-Some.is) ∙ ap Some (sym w.chart-chart.ensures) in
          rw (w.scan-is, w.retained-is) (record {
            planned =
                one_stays (charts_of ss) c.loop-place.place w.chart-chart.result c.args.scan.now.dropped.items c.loop-place.scan.dropped.items
                c.args.scan.now.dropped_sids.items c.loop-place.scan.dropped_sids.items
                c.loop-place.retained there (sym w.is_retained.ensures ∙ w.if-is_retained.true) so_far.planned;
            added = so_far.added;
            listed = so_far.listed;
            next_sid = so_far.next_sid;
          })
      | in-Some+else-is_retained+in_ok-drop_service w ↦
          let there : slice_get (charts_of ss) c.loop-place.place ≡ Some w.chart-chart.result =
          at w.in-Some.standing.now (ap (option_map (λ s. s.now)) w.in-Some.is) ∙ ap Some (sym w.chart-chart.ensures) in
          let ends = w.in_ok-drop_service.ensures in
          rw (w.scan-is, w.retained-is, ends.dropped, ends.dropped_sids) (record {
            planned =
                one_leaves (charts_of ss) c.loop-place.place w.chart-chart.result c.args.scan.now.dropped.items c.loop-place.scan.dropped.items
                c.args.scan.now.dropped_sids.items c.loop-place.scan.dropped_sids.items
                c.loop-place.retained there (sym w.is_retained.ensures ∙ w.if-is_retained.false) so_far.planned;
            added = ends.added ∙ so_far.added;
            listed = ends.listed ∙ so_far.listed;
            next_sid = ends.next_sid ∙ so_far.next_sid;
          })
      | in_default w ↦
          let long : length ss ≡ length c.args.slots.now.services = length_touched c.args.slots.now.services c.args.touched.now in
          let count : c.len-place-end.result ≡ length c.args.slots.now.services = c.len-place-end.ensures.count in
          let within : c.loop-place.place < length ss = omega (arith, c.loop-place-test.true, long, count) in
          let stands = stands_at ss c.loop-place.place within in
          absurd (none-some (service_view stands.item)
          (sym (sym c.standing_at.ensures ∙ ap (option_map (λ s. s.now)) w.in_default.is) ∙ ap (option_map service_view) stands.there))
    ]

-- all services were looked at
whole : (g : _) (c : goal.After-loop-place g)
    → take c.loop-place.place (charts_of (with_changes c.args.slots.now.services c.args.touched.now))
    ≡ charts_of (with_changes c.args.slots.now.services c.args.touched.now)
whole g c =
    let ss = with_changes c.args.slots.now.services c.args.touched.now in
    let long : length ss ≡ length c.args.slots.now.services = length_touched c.args.slots.now.services c.args.touched.now in
    let count : c.len-place-end.result ≡ length c.args.slots.now.services = c.len-place-end.ensures.count in
    all_taken ss c.loop-place.place (omega (arith, c.loop-place-test.false, long, count))

pub returns-clause-dropped : goal.returns-clause-dropped
returns-clause-dropped g c = c.loop-place.invariant.planned.their_names
    ∙ ap (λ cs. c.args.scan.now.dropped.items ++ names_of (filter leaves cs)) (whole g c)

pub returns-clause-dropped_sids : goal.returns-clause-dropped_sids
returns-clause-dropped_sids g c = c.loop-place.invariant.planned.their_sids
    ∙ ap (λ cs. c.args.scan.now.dropped_sids.items ++ serials_of (filter leaves cs)) (whole g c)

pub returns-clause-retained : goal.returns-clause-retained
returns-clause-retained g c = c.loop-place.invariant.planned.count ∙ ap (λ cs. length (filter stays cs)) (whole g c)
