use Rattle.std.proofs.Common.{rules, ◌≡◌, ◌<◌, length, Some, slice_get, refl, arith}
use Rattle.std.proofs.lemmas.Option.{slice_get_read}
use Rattle.order_lanes.proofs.Changing.{sent_more, room_less}
use Rattle.order_lanes.proofs.lane_orders.send_one.Goals as goal

pub returns-clause-sent : goal.returns-clause-sent
returns-clause-sent g c k below =
    let lanes = c.args.lanes.now.items in
    let at = c.lane_of-k.result in
    let p = c.index_mut-lane.result.now in
    let fits : at < length lanes = grind (arith, rules) in
    let here : slice_get lanes at ≡ Some p = slice_get_read lanes (length lanes) at p refl fits c.index_mut-lane.ensures.value in
    sent_more lanes at (length lanes) c.args.order.now p c.send.new.self (grind (arith, rules)) here c.send.ensures.sent k

pub returns-clause-room : goal.returns-clause-room
returns-clause-room g c n room =
    let lanes = c.args.lanes.now.items in
    let at = c.lane_of-k.result in
    let p = c.index_mut-lane.result.now in
    let fits : at < length lanes = grind (arith, rules) in
    let here : slice_get lanes at ≡ Some p = slice_get_read lanes (length lanes) at p refl fits c.index_mut-lane.ensures.value in
    room_less lanes at p c.send.new.self here c.send.ensures.free n room
