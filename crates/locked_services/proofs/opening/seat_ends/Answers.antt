use Rattle.std.proofs.Common.{◌≡◌, ℕ, ◌+◌, ◌∷◌, ◌++◌, List, [], length, slice_get, refl, sym, ap, subst, ◌∙◌, arith}
use Rattle.std.proofs.lemmas.List.{length-append}
use Rattle.std.specs.Vec.Iter.{into_iter_items}
use Rattle.inbox.specs.Ends.{DrainView, RingView, SeatView}
use Rattle.locked_services.specs.Opening.{AreNamedFrom, AreUnused}
use Rattle.locked_services.specs.Submissions.{AreNumbered, taken_from}
use Rattle.locked_services.proofs.Opened.{named_rest, numbered_snoc, untaken_snoc, unused_snoc}
use Rattle.locked_services.proofs.opening.seat_ends.Goals as goal

pub loop-ring-init : goal.loop-ring-init
loop-ring-init g c =
    let names = g.C.Channels.seat_ring in
    let no_drains : c.new-2.result.items ≡ [] = c.new-2.ensures.items in
    let no_seats : c.new.result.items ≡ [] = c.new.ensures.items in
    let all = c.into_iter-ring-iterator.ensures.into_iter_gives.0 in
    let named : AreNamedFrom (length c.new-2.result.items) names c.args.rings.items =
    subst (λ (ds : List DrainView). AreNamedFrom (length ds) names c.args.rings.items) (sym no_drains) c.requires in (
      subst (λ (rings : List RingView). AreNamedFrom (length c.new-2.result.items) names rings) (sym all) named,
      subst (λ (ds : List DrainView). AreNumbered ds) (sym no_drains) (λ k d at. absurd (cc (at))),
      (λ a. ap (λ (ds : List DrainView). taken_from a ds) no_drains),
      subst (λ (ss : List SeatView). AreUnused ss) (sym no_seats) (λ k x at. absurd (cc (at))),
      ap length no_seats ∙ sym (ap length no_drains),
      ap (λ (ds : List DrainView). length ds + length (into_iter_items c.into_iter-ring-iterator.result)) no_drains
          ∙ (let n = ap length all in omega arith),
    )

pub ends-seat-requires : goal.ends-seat-requires
ends-seat-requires g c =
    (c.loop-ring.invariant.0 0 c.in-Some.ring (ap (λ (rings : List RingView). slice_get rings 0) c.in-Some.ensures.steps.0)).1

pub loop-ring-preserved : goal.loop-ring-preserved
loop-ring-preserved g c =
    let inv = c.loop-ring.invariant in
    let ring = c.in-Some.ring in
    let rest = into_iter_items c.next.new.self in
    let names = g.C.Channels.seat_ring in
    let steps : into_iter_items c.loop-ring.ring-iterator ≡ ring ∷ rest = c.in-Some.ensures.steps.0 in
    let drains = c.loop-ring.ends.drains.items in
    let seats = c.loop-ring.ends.seats.items in
    let s : SeatView = record { actor = ring.actor; submitted = []; waiting = 0 } in
    let d : DrainView = record { actor = ring.actor; taken = []; seen = [] } in
    let first : ring.actor ≡ length drains + 0 = (inv.0 0 ring (ap (λ (rings : List RingView). slice_get rings 0) steps)).0 in
    let place : ring.actor ≡ length drains = omega arith in
    let seat_place : ring.actor ≡ length seats = place ∙ sym inv.4 in
    let more_drains : c.push-in-loop-ring.new.self.items ≡ drains ++ d ∷ [] =
    c.in_ok-push-2.ensures.items ∙ ap (λ (x : DrainView). drains ++ x ∷ []) c.ends-seat.ensures.drain in
    let more_seats : c.push.new.self.items ≡ seats ++ s ∷ [] =
    c.in_ok-push.ensures.items ∙ ap (λ (x : SeatView). seats ++ x ∷ []) c.ends-seat.ensures.seat in
    let longer_drains : length c.push-in-loop-ring.new.self.items ≡ length drains + 1 = ap length more_drains ∙ length-append drains (d ∷ []) in
    let longer_seats : length c.push.new.self.items ≡ length seats + 1 = ap length more_seats ∙ length-append seats (s ∷ []) in
    let shorter : length (into_iter_items c.loop-ring.ring-iterator) ≡ length (ring ∷ rest) = ap length steps in
    let left = inv.5 in
    let same = inv.4 in (
      subst (λ (n : ℕ). AreNamedFrom n names rest) (sym longer_drains)
          (named_rest (length drains) names ring rest (subst (λ (rings : List RingView). AreNamedFrom (length drains) names rings) steps inv.0)),
      subst (λ (ds : List DrainView). AreNumbered ds) (sym more_drains) (numbered_snoc drains d inv.1 place),
      (λ a. ap (λ (ds : List DrainView). taken_from a ds) more_drains ∙ untaken_snoc drains d refl a (inv.2 a)),
      subst (λ (ss : List SeatView). AreUnused ss) (sym more_seats) (unused_snoc seats s inv.3 seat_place refl),
      longer_seats ∙ (ap (λ (n : ℕ). n + 1) same ∙ sym longer_drains),
      omega arith,
    )
