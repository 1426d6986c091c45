use Rattle.std.proofs.Common.{rules, ◌≡◌, ap, sym, length, vec_capacity, ◌∙◌, arith}
use Rattle.run_records.specs.Runs.{inputs_of}
use Rattle.locked_services.specs.Shots.{RoomView}
use Rattle.office.proofs.Runs.{run_of}
use Rattle.locked_services.specs.Closing.{desk_unseen}
use Rattle.locked_services.proofs.EndOfRun.{same_length}
use Rattle.office.proofs.office.Office.close.Goals as goal

pub returns-in-Ok-clause-run : goal.returns-in-Ok-clause-run
returns-in-Ok-clause-run g c =
    let sound = c.steps-steps.ensures.sound in
    let is = c.in-Ok.ensures.closed in
    search (run_of, sound, is, rules)

pub lock_all-desks-requires-clause-fits : goal.lock_all-desks-requires-clause-fits
lock_all-desks-requires-clause-fits g c =
    let desks = c.self.inside.desks in
    let back = c.in-Err.field-0.desks.items in
    let each : length back ≡ length desks.items =
    same_length desk_unseen c.unlock_all-locks.result.1.items back c.in-Err.ensures.desks.0 ∙ c.unlock_all-locks.ensures.each in
    let room : vec_capacity c.unlock_all-locks.result.0 ≡ vec_capacity desks = c.unlock_all-locks.ensures.left_room in
    let ok = desks.ok in
    grind (arith, rules)

pub over-requires : goal.over-requires
over-requires g c =
    let each : length c.in-Err.field-0.desks.items ≡ length c.self.inside.desks.items =
    same_length desk_unseen c.unlock_all-locks.result.1.items c.in-Err.field-0.desks.items c.in-Err.ensures.desks.0
    ∙ c.unlock_all-locks.ensures.each in
    let locked = c.lock_all-desks.ensures.each in
    let few = c.self.invariant in
    grind (arith, rules)

pub returns-in-Err-clause-lanes : goal.returns-in-Err-clause-lanes
returns-in-Err-clause-lanes g c =
    c.over.ensures
    ∙ (c.lock_all-desks.ensures.each
    ∙ (same_length desk_unseen c.unlock_all-locks.result.1.items c.in-Err.field-0.desks.items c.in-Err.ensures.desks.0
    ∙ (c.unlock_all-locks.ensures.each ∙ c.self.view_is)))

pub returns-in-Err-clause-fault : goal.returns-in-Err-clause-fault
returns-in-Err-clause-fault g c = (
  c.show.new.self,
  c.steps-steps.ensures.sound,
  ap (λ (v : RoomView). inputs_of v.running.steps) c.show.ensures.same ∙ sym c.show.ensures.all,
  (c.unlock_all-locks.result.1.items, c.in-Err.ensures.fault),
)
