use Rattle.std.proofs.Common.{rules, ◌≡◌, ◌++◌, IsTrue, nat_eq, ap, subst}
use Rattle.rtrb.specs.Ring.{received, known_items, sent}
use Rattle.order_lanes.specs.Lane.{LaneView}
use Rattle.order_lanes.specs.Desk.{DeskView}
use Rattle.order_lanes.proofs.Turns.{all_asked}
use Rattle.order_lanes.proofs.desk.Desk.is_done.Goals as goal

pub returns-clause-done : goal.returns-clause-done
returns-clause-done g c =
    let inside = c.self.inside in
    let look = c.slots_beside-waiting in
    let P : DeskView → Type 0 = λ v. (IsTrue (nat_eq look.result 0) → v.asked ≡ g.L.Lanes.asked_before v.lane ++ c.args.lane.now.sent)
    × (v.asked ≡ g.L.Lanes.asked_before v.lane ++ c.args.lane.now.sent → IsTrue (nat_eq look.result 0)) in
    let same : sent c.lane.inside.producer ≡ c.args.lane.now.sent = ap (λ (v : LaneView). v.sent) c.lane.view_is in
    let went : received inside.consumer ++ known_items look.new.self ≡ c.args.lane.now.sent =
    grind (look.ensures.fifo, look.ensures.looked, look.ensures.producer, same, rules) in
    subst P c.self.view_is
    (all_asked (g.B.Backend.asked inside.backend) (g.L.Lanes.asked_before inside.lane) (received inside.consumer)
    (known_items look.new.self) c.args.lane.now.sent inside.held
    (search rules) c.self.invariant.1 went look.result look.ensures.value)
