use Rattle.std.proofs.Common.{rules, ◌≡◌, subst}
use Rattle.locked_services.specs.Shots.{RoomView, IsSoundHistory}
use Rattle.office.proofs.office.Office.ended.Goals as goal

pub returns-clause-told : goal.returns-clause-told
returns-clause-told g c =
    let same : c.deref.result.now ≡ c.deref-2.result.now = search rules in
    (_, subst (λ (v : RoomView). IsSoundHistory g.C.Lanes.opening v) same c.steps-steps.ensures.sound, search rules, c.ended.ensures)
