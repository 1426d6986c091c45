use Rattle.std.proofs.Common.{◌∙◌, Bool, false, refl, sym, subst, ap}
use Rattle.deadlines.specs.Timers.{is_rising}
use Rattle.svscan_core.specs.Moving.{services_so_far, step_so_far}
use Rattle.svscan_core.specs.declared.work.ServiceWork.{ServiceWork}
use Rattle.svscan_core.specs.Asked.{work_asked}
use Rattle.svscan_core.specs.Pending.{prepared_of}
use Rattle.svscan_core.specs.Table.{serials_of}
use Rattle.svscan_core.specs.Work.{change_move_at, command_move}
use Rattle.svscan_core.specs.Work.Work.{change_one, command}
use Rattle.svscan_core.specs.Worked.{WorkIsDone}
use Rattle.svscan_core.proofs.SerialsRise.{rising_before}
use Rattle.svscan_core.proofs.Tallied.{no_order_deaths}
use Rattle.svscan_core.proofs.WorkDone.{empty_scan, moves_done, nothing_done}
use Rattle.svscan_core.proofs.pending.Pending.do_work.Goals as goal

pub change_one-requires-clause-order : goal.change_one-requires-clause-order
change_one-requires-clause-order g c =
    ap is_rising (sym c.requires.serials)
    ∙ rising_before (serials_of (services_so_far c.args.slots.now.services c.args.self.now.moves.touched.items)) c.args.self.now.scan.next_sid
    c.requires.sound.sound.order

pub visit_all-requires-clause-order : goal.visit_all-requires-clause-order
visit_all-requires-clause-order g c =
    rising_before (serials_of (services_so_far c.args.slots.now.services c.args.self.now.moves.touched.items)) c.args.self.now.scan.next_sid
    c.requires.sound.sound.order

pub returns-in-Nothing-clause-worked : goal.returns-in-Nothing-clause-worked
returns-in-Nothing-clause-worked g c =
    let services = c.args.slots.now.services in
    let scan = c.args.self.now.scan in
    let old = step_so_far services c.args.self.now.moves in
    let p = prepared_of services c.args.self.now.moves scan c.args.self.now.stale in
    subst (λ (w : ServiceWork). WorkIsDone (work_asked w) c.args.now scan.next_sid old p) (sym c.in-Nothing.is)
    (nothing_done c.args.now scan.next_sid old p
    (empty_scan services c.args.self.now.moves scan c.args.self.now.stale false c.requires.empty c.requires.stale))

pub returns-in_ok-self-in-Change-clause-worked : goal.returns-in_ok-self-in-Change-clause-worked
returns-in_ok-self-in-Change-clause-worked g c =
    let services = c.args.slots.now.services in
    let scan = c.args.self.now.scan in
    let new = c.change_one.new.self in
    let old = step_so_far services c.args.self.now.moves in
    let stale = c.in_ok-self-in-Change.field-0 in
    let p = prepared_of services new scan stale in
    subst (λ (w : ServiceWork). WorkIsDone (work_asked w) c.args.now scan.next_sid old p) (sym c.in-Change.is)
    (moves_done (change_one c.in-Change.sid c.in-Change.change.now) c.args.now scan.next_sid
    (change_move_at c.in-Change.sid c.in-Change.change.now c.args.now) _ old (step_so_far services new) p
    (empty_scan services new scan stale _ c.requires.empty c.in_ok-self-in-Change.ensures.stale) c.in_ok-self-in-Change.ensures.takes refl refl)

pub returns-in_ok-visit_all-in-Command-clause-worked : goal.returns-in_ok-visit_all-in-Command-clause-worked
returns-in_ok-visit_all-in-Command-clause-worked g c =
    let services = c.args.slots.now.services in
    let scan = c.args.self.now.scan in
    let new = c.visit_all.new.self in
    let old = step_so_far services c.args.self.now.moves in
    let p = prepared_of services new scan c.args.self.now.stale in
    subst (λ (w : ServiceWork). WorkIsDone (work_asked w) c.args.now scan.next_sid old p) (sym c.in-Command.is)
    (moves_done (command c.in-Command.order) c.args.now scan.next_sid (command_move c.in-Command.order c.args.now) false old
    (step_so_far services new) p (empty_scan services new scan c.args.self.now.stale false c.requires.empty c.requires.stale)
    c.in_ok-visit_all-in-Command.ensures.takes refl
    (no_order_deaths c.in-Command.order c.args.now (services_so_far services c.args.self.now.moves.touched.items)))

pub returns-in_ok-plan_scan-in-Listing-clause-worked : goal.returns-in_ok-plan_scan-in-Listing-clause-worked
returns-in_ok-plan_scan-in-Listing-clause-worked g c =
    let services = c.args.slots.now.services in
    let scan = c.args.self.now.scan in
    let old = step_so_far services c.args.self.now.moves in
    subst (λ (b : Bool). WorkIsDone (work_asked c.args.work.now) c.args.now scan.next_sid old
    (prepared_of services c.plan_scan.new.moves c.plan_scan.new.scan b)) (sym c.requires.stale)
    (subst (λ (w : ServiceWork). WorkIsDone (work_asked w) c.args.now scan.next_sid old
    (prepared_of services c.plan_scan.new.moves c.plan_scan.new.scan false)) (sym c.in-Listing.is) c.in_ok-plan_scan-in-Listing.ensures.worked)
