use Rattle.std.proofs.Common.{rules, ◌≡◌, ◌==◌, ◌<◌, ◌+◌, ℕ, length, option_map, Option, Some, slice_get, refl, sym, ap, subst, ◌∙◌, arith}
use Rattle.std.proofs.lemmas.Option.{slice_get_read, slice_get_within}
use Rattle.order_lanes.specs.Desk.{DeskView}
use Rattle.order_lanes.specs.Lane.{LaneView}
use Rattle.locked_services.specs.Closing.{lane_unseen, desk_unseen, IsServed}
use Rattle.locked_services.proofs.EndOfRun.{map_set, same_at, same_there}
use Rattle.locked_services.proofs.Finished.{and_of_next}
use Rattle.locked_services.proofs.Served.{order_left, served_all, served_same}
use Rattle.locked_services.proofs.serving.are_served.Goals as goal

pub returns-then-len-clause-no : goal.returns-then-len-clause-no
returns-then-len-clause-no g c said =
    let lanes = c.args.lanes.now in
    let desks = c.args.desks.now in
    let t = order_left g.L.Lanes.asked_before 0 lanes.items desks.items
    (λ same. let differ = c.if-len.true in grind (arith, rules)) in
    let e : 0 + t.0 ≡ t.0 = omega arith in
    (t.0, λ served. t.1 (subst (λ (i : ℕ). IsServed g.L.Lanes.asked_before i (slice_get lanes.items t.0) (slice_get desks.items t.0)) (sym e) served))

pub returns-then-not-is_served-clause-lanes : goal.returns-then-not-is_served-clause-lanes
returns-then-not-is_served-clause-lanes g c =
    let inv = c.loop-k.invariant in
    let lanes = c.loop-k.lanes in
    let p = c.index_mut-lane.result.now in
    let here : slice_get lanes.items c.loop-k.k ≡ Some p =
    slice_get_read lanes.items lanes.len c.loop-k.k p lanes.ok.0 (grind (arith, rules)) c.index_mut-lane.ensures.value in
    map_set lane_unseen lanes.items c.loop-k.k p c.is_served.new.lane here (ap lane_unseen c.is_served.ensures.lane) ∙ inv.0

pub returns-then-not-is_served-clause-desks : goal.returns-then-not-is_served-clause-desks
returns-then-not-is_served-clause-desks g c =
    let inv = c.loop-k.invariant in
    let desks = c.loop-k.desks in
    let q = c.index_mut-desk.result.now in
    let here : slice_get desks.items c.loop-k.k ≡ Some q =
    slice_get_read desks.items desks.len c.loop-k.k q desks.ok.0 (grind (arith, rules)) c.index_mut-desk.ensures.value in
    map_set desk_unseen desks.items c.loop-k.k q c.is_served.new.desk here (ap desk_unseen c.is_served.ensures.desk) ∙ inv.1

pub returns-then-not-is_served-clause-no : goal.returns-then-not-is_served-clause-no
returns-then-not-is_served-clause-no g c said =
    let inv = c.loop-k.invariant in
    let k = c.loop-k.k in
    let before = g.L.Lanes.asked_before in
    let lanes = c.loop-k.lanes in
    let desks = c.loop-k.desks in
    let p = c.index_mut-lane.result.now in
    let q = c.index_mut-desk.result.now in
    let lane : slice_get lanes.items k ≡ Some p =
    slice_get_read lanes.items lanes.len k p lanes.ok.0 (grind (arith, rules)) c.index_mut-lane.ensures.value in
    let desk : slice_get desks.items k ≡ Some q =
    slice_get_read desks.items desks.len k q desks.ok.0 (grind (arith, rules)) c.index_mut-desk.ensures.value in
    let a = same_there lane_unseen (slice_get c.args.lanes.now.items k) p
    (ap (option_map lane_unseen) (sym lane) ∙ same_at lane_unseen c.args.lanes.now.items lanes.items inv.0 k) in
    let b = same_there desk_unseen (slice_get c.args.desks.now.items k) q
    (ap (option_map desk_unseen) (sym desk) ∙ same_at desk_unseen c.args.desks.now.items desks.items inv.1 k) in (
      k,
      λ served. c.if-not-is_served.ensures.no (search rules) (served_same before k a.0 p b.0 q (sym a.2) (sym b.2)
          (subst (λ (o : Option LaneView). IsServed before k o (Some b.0)) a.1
          (subst (λ (o : Option DeskView). IsServed before k (slice_get c.args.lanes.now.items k) o) b.1 served))),
    )

pub loop-k-preserved : goal.loop-k-preserved
loop-k-preserved g c =
    let inv = c.loop-k.invariant in
    let k = c.loop-k.k in
    let before = g.L.Lanes.asked_before in
    let lanes = c.loop-k.lanes in
    let desks = c.loop-k.desks in
    let p = c.index_mut-lane.result.now in
    let q = c.index_mut-desk.result.now in
    let lane : slice_get lanes.items k ≡ Some p =
    slice_get_read lanes.items lanes.len k p lanes.ok.0 (grind (arith, rules)) c.index_mut-lane.ensures.value in
    let desk : slice_get desks.items k ≡ Some q =
    slice_get_read desks.items desks.len k q desks.ok.0 (grind (arith, rules)) c.index_mut-desk.ensures.value in
    let a = same_there lane_unseen (slice_get c.args.lanes.now.items k) p
    (ap (option_map lane_unseen) (sym lane) ∙ same_at lane_unseen c.args.lanes.now.items lanes.items inv.0 k) in
    let b = same_there desk_unseen (slice_get c.args.desks.now.items k) q
    (ap (option_map desk_unseen) (sym desk) ∙ same_at desk_unseen c.args.desks.now.items desks.items inv.1 k) in
    let one : IsServed before k (Some a.0) (Some b.0) =
    served_same before k p a.0 q b.0 a.2 b.2 (c.if-not-is_served.ensures.yes (search rules)) in (
      map_set lane_unseen lanes.items k p c.is_served.new.lane lane (ap lane_unseen c.is_served.ensures.lane) ∙ inv.0,
      map_set desk_unseen desks.items k q c.is_served.new.desk desk (ap desk_unseen c.is_served.ensures.desk) ∙ inv.1,
      inv.2,
      (λ j x y below there here.
          and_of_next (λ (n : ℕ). (l : LaneView) (d : DeskView) → slice_get c.args.lanes.now.items n ≡ Some l
          → slice_get c.args.desks.now.items n ≡ Some d
          → IsServed before n (Some l) (Some d)) k j (j == k) refl (λ i less l d. inv.3 i l d less)
          (λ l d at_lane at_desk. let e : a.0 ≡ l = cc (a.1, at_lane) in let f : b.0 ≡ d = cc (b.1, at_desk) in
          subst (λ (z : LaneView). IsServed before k (Some z) (Some d)) e (subst (λ (z : DeskView). IsServed before k (Some a.0) (Some z)) f one))
          below x y there here),
    )

pub returns-clause-yes : goal.returns-clause-yes
returns-clause-yes g c said k =
    let inv = c.loop-k.invariant in
    let before = g.L.Lanes.asked_before in
    let lanes = c.args.lanes.now in
    let desks = c.args.desks.now in
    let past = c.loop-k-test.false in
    let same : length lanes.items ≡ length desks.items = grind (arith, rules) in
    let end = c.len-k-end.ensures in
    let fits = lanes.ok.0 in
    let all = served_all before 0 lanes.items desks.items same (λ j l d there here.
    let e : 0 + j ≡ j = omega arith in
    let within : j < length lanes.items = slice_get_within lanes.items j l there in
    subst (λ (i : ℕ). IsServed before i (Some l) (Some d)) (sym e) (inv.3 j l d (omega arith) there here)) k in
    let e : 0 + k ≡ k = omega arith in
    subst (λ (i : ℕ). IsServed before i (slice_get lanes.items k) (slice_get desks.items k)) e all
