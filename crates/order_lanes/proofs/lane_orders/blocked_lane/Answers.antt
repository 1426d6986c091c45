use Rattle.std.proofs.Common.{rules, ◌≡◌, ◌<◌, length, Some, slice_get, ◌∙◌, arith}
use Rattle.std.proofs.lemmas.Option.{slice_get_read, slice_get_within}
use Rattle.channel_names.proofs.Places.{set_here}
use Rattle.order_lanes.proofs.Changing.{sent_set, room_before, room_below}
use Rattle.order_lanes.proofs.lane_orders.blocked_lane.Goals as goal

pub returns-then-free_places-places-clause-blocked : goal.returns-then-free_places-places-clause-blocked
returns-then-free_places-places-clause-blocked g c =
    let lanes = c.loop-k.lanes.items in
    let p = c.index_mut-lane.result.now in
    let here : slice_get lanes c.loop-k.k ≡ Some p =
    slice_get_read lanes c.loop-k.lanes.len c.loop-k.k p c.loop-k.lanes.ok.0 (grind (arith, rules)) c.index_mut-lane.ensures.value in
    record {
      lane = c.free_places.new.self;
      there = set_here lanes c.loop-k.k p c.free_places.new.self here;
      few = grind (arith, rules);
      least = room_before lanes c.loop-k.k c.args.places c.free_places.new.self c.loop-k.invariant.2;
    }

pub loop-k-preserved : goal.loop-k-preserved
loop-k-preserved g c =
    let inv = c.loop-k.invariant in
    let lanes = c.loop-k.lanes.items in
    let p = c.index_mut-lane.result.now in
    let q = c.free_places.new.self in
    let here : slice_get lanes c.loop-k.k ≡ Some p =
    slice_get_read lanes c.loop-k.lanes.len c.loop-k.k p c.loop-k.lanes.ok.0 (grind (arith, rules)) c.index_mut-lane.ensures.value in
    let free = c.free_places.ensures.free in
    let past = c.if-free_places-places.false in (
      grind (arith, rules),
      (λ j. sent_set lanes c.loop-k.k p q here c.free_places.ensures.sent j ∙ inv.1 j),
      room_below lanes c.loop-k.k
          c.args.places q inv.2 (omega arith),
    )

pub returns-clause-room : goal.returns-clause-room
returns-clause-room g c k l at =
    let inv = c.loop-k.invariant in
    let below : k < length c.loop-k.lanes.items = slice_get_within c.loop-k.lanes.items k l at in
    let len = inv.0 in
    let fits = c.args.lanes.now.ok.0 in
    let end = c.len-k-end.ensures in
    let past = c.loop-k-test.false in
    inv.2 k l (omega arith) at
