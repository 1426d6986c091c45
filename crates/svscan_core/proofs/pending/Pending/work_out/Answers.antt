use Rattle.std.proofs.Common.{◌≡◌, ◌∙◌, ◌+◌, ◌≤◌, ℕ, List, length, sym, ap, subst, arith}
use Rattle.std.proofs.lemmas.List.{length-map}
use Rattle.deadlines.specs.declared.timer.TimerChange.{TimerChange}
use Rattle.deadlines.specs.Timers.{is_rising}
use Rattle.supervise_core.specs.Chart.{fire_move}
use Rattle.supervise_core.specs.Service.{Supervised}
use Rattle.svscan_core.specs.declared.moves.ChangedService.{ChangedService}
use Rattle.svscan_core.specs.Asked.{work_asked}
use Rattle.svscan_core.specs.Moves.{services_after}
use Rattle.svscan_core.specs.Moving.{services_so_far, step_so_far}
use Rattle.svscan_core.specs.Pending.{planned_of, prepared_of}
use Rattle.svscan_core.specs.Registry.{registry_prepared}
use Rattle.svscan_core.specs.Table.{charts_of, serials_of}
use Rattle.svscan_core.specs.SoFar.{IsSoundSoFar}
use Rattle.svscan_core.specs.Worked.{IsStepOf, WorkIsDone}
use Rattle.svscan_core.proofs.SerialsRise.{fired_serials, rising_before}
use Rattle.svscan_core.proofs.WorkDone.{begins, done_after_timers, fired_sound}
use Rattle.svscan_core.proofs.pending.Pending.work_out.Goals as goal

pub fire_due-requires-clause-order : goal.fire_due-requires-clause-order
fire_due-requires-clause-order g c =
    ap (λ (ts : List ChangedService). is_rising (serials_of (services_so_far c.args.slots.now.services ts))) c.clear.ensures.touched
    ∙ rising_before (serials_of (charts_of c.args.slots.now.services)) c.args.next_sid c.requires.sound.order

pub do_work-requires-clause-empty : goal.do_work-requires-clause-empty
do_work-requires-clause-empty g c = c.clear.ensures.scan

pub do_work-requires-clause-few : goal.do_work-requires-clause-few
do_work-requires-clause-few g c =
    let services = c.args.slots.now.services in
    let none : length c.clear.new.self.moves.orders.items ≡ 0 = ap length c.clear.ensures.orders in
    let same : length (charts_of services) ≡ length services = length-map services (λ (s : Supervised). s.chart) in
    omega (arith, none, same, c.in_ok-fire_due.ensures.few, c.requires.sound.few)

pub do_work-requires-clause-sound : goal.do_work-requires-clause-sound
do_work-requires-clause-sound g c =
    let services = c.args.slots.now.services in
    let fired : services_so_far services c.fire_due.new.moves.touched.items ≡ services_after (fire_move c.args.now) (charts_of services) =
    c.in_ok-fire_due.ensures.takes.services
    ∙ ap (λ (ts : List ChangedService). services_after (fire_move c.args.now) (services_so_far services ts)) c.clear.ensures.touched in
    subst (λ (n : ℕ). IsSoundSoFar n services c.fire_due.new.moves.touched.items) (sym c.clear.ensures.next_sid)
    (fired_sound c.args.now c.args.next_sid services c.fire_due.new.moves.touched.items fired c.requires.sound c.requires.generations)

pub do_work-requires-clause-serials : goal.do_work-requires-clause-serials
do_work-requires-clause-serials g c =
    let services = c.args.slots.now.services in
    let fired : services_so_far services c.fire_due.new.moves.touched.items ≡ services_after (fire_move c.args.now) (charts_of services) =
    c.in_ok-fire_due.ensures.takes.services
    ∙ ap (λ (ts : List ChangedService). services_after (fire_move c.args.now) (services_so_far services ts)) c.clear.ensures.touched in
    ap serials_of fired ∙ fired_serials c.args.now (charts_of services)

pub returns-clause-prepared : goal.returns-clause-prepared
returns-clause-prepared g c =
    let services = c.args.slots.now.services in
    let work = work_asked c.args.work.now in
    let worked = c.do_work.new.self in
    subst (λ (ts : List TimerChange). IsStepOf work c.args.now (record { services = services; next_sid = c.args.next_sid })
    (record (registry_prepared services (planned_of worked)) { timers = ts })) (sym c.in_ok-list_timers.ensures.timers)
    (done_after_timers work c.args.now c.args.next_sid services (step_so_far services c.clear.new.self.moves)
    (step_so_far services c.fire_due.new.moves) (prepared_of services worked.moves worked.scan worked.stale)
    (begins services c.clear.new.self.moves c.clear.ensures.touched c.clear.ensures.events c.clear.ensures.orders) c.in_ok-fire_due.ensures.takes
    (subst (λ (n : ℕ). WorkIsDone work c.args.now n (step_so_far services c.fire_due.new.moves)
    (prepared_of services worked.moves worked.scan worked.stale)) c.clear.ensures.next_sid c.in_ok-do_work.ensures.worked))

pub returns-clause-limits : goal.returns-clause-limits
returns-clause-limits g c = record { added = c.in_ok-do_work.ensures.limits.added; most = c.in_ok-do_work.ensures.limits.most }
