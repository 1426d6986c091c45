use Rattle.std.proofs.Common.{ℕ, List, sym, subst}
use Rattle.deadlines.specs.declared.timer.TimerChange.{TimerChange}
use Rattle.svscan_core.specs.Asked.{work_asked}
use Rattle.svscan_core.specs.Moving.{step_so_far}
use Rattle.svscan_core.specs.Pending.{planned_of, prepared_of}
use Rattle.svscan_core.specs.Registry.{registry_prepared}
use Rattle.svscan_core.specs.SoFar.{IsSoundSoFar}
use Rattle.svscan_core.specs.Worked.{IsWorkOf, WorkIsDone}
use Rattle.svscan_core.proofs.WorkDone.{begins, begun_sound, done_alone}
use Rattle.svscan_core.proofs.pending.Pending.work_alone.Goals as goal

pub do_work-requires-clause-empty : goal.do_work-requires-clause-empty
do_work-requires-clause-empty g c = c.clear.ensures.scan

pub do_work-requires-clause-sound : goal.do_work-requires-clause-sound
do_work-requires-clause-sound g c =
    let services = c.args.slots.now.services in
    subst (λ (n : ℕ). IsSoundSoFar n services c.clear.new.self.moves.touched.items) (sym c.clear.ensures.next_sid)
    (begun_sound c.args.next_sid services c.clear.new.self.moves.touched.items c.clear.ensures.touched c.requires.sound c.requires.generations)

pub returns-clause-prepared : goal.returns-clause-prepared
returns-clause-prepared g c =
    let services = c.args.slots.now.services in
    let work = work_asked c.args.work.now in
    let worked = c.do_work.new.self in
    subst (λ (ts : List TimerChange). IsWorkOf work c.args.now (record { services = services; next_sid = c.args.next_sid })
    (record (registry_prepared services (planned_of worked)) { timers = ts })) (sym c.in_ok-list_timers.ensures.timers)
    (done_alone work c.args.now c.args.next_sid services (step_so_far services c.clear.new.self.moves)
    (prepared_of services worked.moves worked.scan worked.stale)
    (begins services c.clear.new.self.moves c.clear.ensures.touched c.clear.ensures.events c.clear.ensures.orders)
    (subst (λ (n : ℕ). WorkIsDone work c.args.now n (step_so_far services c.clear.new.self.moves)
    (prepared_of services worked.moves worked.scan worked.stale)) c.clear.ensures.next_sid c.in_ok-do_work.ensures.worked))

pub returns-clause-limits : goal.returns-clause-limits
returns-clause-limits g c = record { added = c.in_ok-do_work.ensures.limits.added; most = c.in_ok-do_work.ensures.limits.most }
