use Rattle.std.proofs.Common.{◌≡◌, ◌≤◌, ◌<◌, ℕ, ◌+◌, List, [], ◌∷◌, ◌++◌, length, slice_get, refl, sym, ap, subst, ◌∙◌, arith}
use Rattle.std.proofs.lemmas.List.{length-append}
use Rattle.std.proofs.lemmas.Option.{slice_get_read}
use Rattle.std.specs.Vec.Iter.{into_iter_items}
use Rattle.order_lanes.specs.Lane.{LaneRingView, LaneView, lane_room, sent_in}
use Rattle.office.specs.Opening.{AreLaneRings, AreAsked}
use Rattle.office.proofs.Filled.{rings_rest, asked_removed, removed_length, unsent_snoc}
use Rattle.office.proofs.lane_ends.LaneEnds.fill.Goals as goal

pub loop-ring-init : goal.loop-ring-init
loop-ring-init g c =
    let names = g.L.Lanes.lane_ring in
    let before = g.L.Lanes.asked_before in
    let all = c.into_iter-ring-iterator.ensures.into_iter_gives.0 in
    let rest = into_iter_items c.into_iter-ring-iterator.result in
    let no_lanes : c.args.self.lanes.items ≡ [] = c.requires.empty.0 in
    let no_desks : c.args.self.desks.items ≡ [] = c.requires.empty.1 in (
      subst (λ (n : ℕ). AreLaneRings names n rest) (sym (ap length no_lanes))
          (subst (λ (rings : List LaneRingView). AreLaneRings names 0 rings) (sym all) c.requires.rings),
      subst (λ (n : ℕ). AreAsked g.B.Backend.asked before n c.args.backends.items) (sym (ap length no_lanes)) c.requires.before,
      c.requires.backends ∙ sym (ap length all),
      (λ k. ap (λ (ls : List LaneView). sent_in k ls) no_lanes),
      ap length no_desks ∙ sym (ap length no_lanes),
      ap (λ (ls : List LaneView). length ls + length rest) no_lanes ∙ (let n = ap length all in omega arith),
      c.requires.lane_room,
      c.requires.desk_room,
    )

pub ends-lane-requires-clause-ring : goal.ends-lane-requires-clause-ring
ends-lane-requires-clause-ring g c =
    (c.loop-ring.invariant.0 0 c.in-Some.ring (ap (λ (rings : List LaneRingView). slice_get rings 0) c.in-Some.ensures.steps.0)).1

pub ends-lane-requires-clause-before : goal.ends-lane-requires-clause-before
ends-lane-requires-clause-before g c =
    let inv = c.loop-ring.invariant in
    let steps = c.in-Some.ensures.steps.0 in
    let backends = c.loop-ring.backends.items in
    let same = inv.2 in
    let longer = ap length steps in
    let some : 0 < length backends = omega arith in
    let first = slice_get_read backends (length backends) 0 c.remove-backend.result refl some c.remove-backend.ensures.value in
    let place = (inv.0 0 c.in-Some.ring (ap (λ (rings : List LaneRingView). slice_get rings 0) steps)).0 in
    inv.1 0 c.remove-backend.result first ∙ ap g.L.Lanes.asked_before (sym place)

pub loop-ring-preserved : goal.loop-ring-preserved
loop-ring-preserved g c =
    let inv = c.loop-ring.invariant in
    let names = g.L.Lanes.lane_ring in
    let before = g.L.Lanes.asked_before in
    let ring = c.in-Some.ring in
    let rest = into_iter_items c.next.new.self in
    let steps : into_iter_items c.loop-ring.ring-iterator ≡ ring ∷ rest = c.in-Some.ensures.steps.0 in
    let lanes = c.loop-ring.ends.lanes.items in
    let desks = c.loop-ring.ends.desks.items in
    let backends = c.loop-ring.backends.items in
    let left = c.remove-backend.new.self.items in
    let l : LaneView = record { number = ring.number; sent = []; free = lane_room } in
    let removed = c.remove-backend.ensures.by_index.2 in
    let shorter : length (into_iter_items c.loop-ring.ring-iterator) ≡ length (ring ∷ rest) = ap length steps in
    let same = inv.2 in
    let some : 0 < length backends = omega arith in
    let fewer : length left + 1 ≡ length backends = removed_length backends left removed some in
    let more_lanes : c.push_reserved.new.self.items ≡ lanes ++ l ∷ [] =
    c.push_reserved.ensures.items ∙ ap (λ (x : LaneView). lanes ++ x ∷ []) c.ends-lane.ensures.lane in
    let longer : length c.push_reserved.new.self.items ≡ length lanes + 1 = ap length more_lanes ∙ length-append lanes (l ∷ []) in
    let longer_desks : length c.push_reserved-in-loop-ring.new.self.items ≡ length desks + 1 =
    ap length c.push_reserved-in-loop-ring.ensures.items ∙ length-append desks (_ ∷ []) in
    let count = inv.5 in (
      subst (λ (n : ℕ). AreLaneRings names n rest) (sym longer)
          (rings_rest names (length lanes) ring rest (subst (λ (rings : List LaneRingView). AreLaneRings names (length lanes) rings) steps inv.0)),
      subst (λ (n : ℕ). AreAsked g.B.Backend.asked before n left) (sym longer)
          (asked_removed g.B.Backend.asked before (length lanes) backends left removed inv.1),
      omega arith,
      (λ k. ap (λ (ls : List LaneView). sent_in k ls) more_lanes ∙ unsent_snoc lanes l refl k (inv.3 k)),
      longer_desks ∙ (ap (λ (n : ℕ). n + 1) inv.4 ∙ sym longer),
      omega arith,
      subst (λ (n : ℕ). length c.args.rings.items ≤ n) (sym c.push_reserved.ensures.capacity) inv.6,
      subst (λ (n : ℕ). length c.args.rings.items ≤ n) (sym c.push_reserved-in-loop-ring.ensures.capacity) inv.7,
    )
