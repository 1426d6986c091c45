use Rattle.std.proofs.Common.{◌≡◌, ◌∙◌, ◌<◌, ◌≤◌, ◌==◌, ap, sym, subst, arith, length, map, get_or, filter, not}
use Rattle.std.specs.Prelude.{if◌then◌else◌}
use Rattle.s6_events.specs.Rising.{AreRising}
use Rattle.wait_conditions.specs.declared.waiter.Waiter.{Waiter}
use Rattle.std.proofs.lemmas.List.{drop_all, length-map, length-drop, length-set, map-set, get_or-map}
use Rattle.std.proofs.lemmas.List.Elements.{All-get_or, All-set}
use Rattle.wait_conditions.specs.Kept.{StoredWaiter, waiter_view, still_waits, with_moments}
use Rattle.wait_conditions.specs.WaitsFields.{IsCounted, waiters_view}
use Rattle.wait_conditions.specs.Watchers.{AreIndexed, serials_of, serials_where, touched_by, watches}
use Rattle.wait_conditions.proofs.InPlace.{ChangedBelow, changed_more}
use Rattle.wait_conditions.proofs.Leaving.{stays_all, id_stays, watches_on}
use Rattle.wait_conditions.proofs.Searching.{drop_on, skip_on, changed_all, next_first, next_inside, rising_set, indexed_set}
use Rattle.wait_conditions.proofs.releasing.change_touched.Goals as goal

pub bounds-waiters-place : goal.bounds-waiters-place
bounds-waiters-place g c =
    let inside : c.place_from-place.result < length (waiters_view c.args.waiters.now) =
    next_inside (with_moments c.args.moments.now) (touched_by c.args.moments.now) c.loop-id.start c.place_from-place.result c.loop-id.id-index
    c.id-item.result (waiters_view c.args.waiters.now) (waiters_view c.loop-id.waiters) c.args.touched.now
    (omega (arith, c.loop-id.invariant.within, c.loop-id.auto.waiters, length-map c.args.waiters.now waiter_view)) c.loop-id.invariant.waiters
    c.loop-id.invariant.left c.loop-id-test.true c.id-item.is c.place_from-place.ensures.from c.place_from-place.ensures.first in
    omega (arith, inside, c.loop-id.auto.waiters, length-map c.args.waiters.now waiter_view)

pub change-requires : goal.change-requires
change-requires g c =
    let inside : c.place_from-place.result < length (waiters_view c.args.waiters.now) =
    next_inside (with_moments c.args.moments.now) (touched_by c.args.moments.now) c.loop-id.start c.place_from-place.result c.loop-id.id-index
    c.id-item.result (waiters_view c.args.waiters.now) (waiters_view c.loop-id.waiters) c.args.touched.now
    (omega (arith, c.loop-id.invariant.within, c.loop-id.auto.waiters, length-map c.args.waiters.now waiter_view)) c.loop-id.invariant.waiters
    c.loop-id.invariant.left c.loop-id-test.true c.id-item.is c.place_from-place.ensures.from c.place_from-place.ensures.first in
    All-get_or IsCounted c.loop-id.waiters c.place_from-place.result c.index-waiters-place.result
    (omega (arith, inside, c.loop-id.auto.waiters, length-map c.args.waiters.now waiter_view)) c.loop-id.invariant.counted

pub loop-id-preserved : goal.loop-id-preserved
loop-id-preserved g c =
    let F = with_moments c.args.moments.now in
    let old = waiters_view c.args.waiters.now in
    let ws = c.loop-id.waiters in
    let place = c.place_from-place.result in
    let w = c.index-waiters-place.result in
    let within : c.loop-id.start ≤ length old = omega
    (arith, c.loop-id.invariant.within, c.loop-id.auto.waiters, length-map c.args.waiters.now waiter_view) in
    let first = next_first F (touched_by c.args.moments.now) c.loop-id.start place c.loop-id.id-index
    c.id-item.result old (waiters_view ws) c.args.touched.now within c.loop-id.invariant.waiters c.loop-id.invariant.left c.loop-id-test.true
    c.id-item.is c.place_from-place.ensures.first in
    let inside : place < length old =
    omega (arith, first.within, c.place_from-place.ensures.from, length-drop c.loop-id.start old) in
    let here : place < length ws = omega (arith, inside, c.loop-id.auto.waiters, length-map c.args.waiters.now waiter_view) in
    let below : ChangedBelow F old ws place = record {
      within = inside;
      here = here;
      now = skip_on (touched_by c.args.moments.now) F (stays_all c.args.moments.now) c.loop-id.start place old (waiters_view ws)
          c.place_from-place.ensures.from first.none_before c.loop-id.invariant.waiters;
    } in
    let given : waiter_view c.change.new.waiter ≡ F (waiter_view w) =
    c.change.ensures.waiter ∙ ap (λ x. F (waiter_view x)) (sym c.index-waiters-place.is) in
    let seen : waiter_view w ≡ get_or (waiters_view ws) place (waiter_view w) =
    ap waiter_view c.index-waiters-place.is ∙ sym (get_or-map waiter_view ws place w (waiter_view w) here) in
    let named : c.change.new.waiter.id ≡ (get_or (waiters_view ws) place (waiter_view w)).id =
    ap (λ (k : StoredWaiter). k.id) given ∙ (id_stays c.args.moments.now (waiter_view w) ∙ ap (λ (k : StoredWaiter). k.id) seen) in
    let long : place < length (waiters_view ws) = omega (arith, here, length-map ws waiter_view) in
    record {
      within = omega (arith, here, length-set ws place c.change.new.waiter);
      left = sym first.left ∙ ap (serials_where (touched_by c.args.moments.now)) (drop_on c.loop-id.start place old c.place_from-place.ensures.from);
      waiters = changed_more F old ws place w c.change.new.waiter below c.index-waiters-place.is given;
      rising = subst (λ ks. AreRising (map (λ (k : StoredWaiter). k.id) ks)) (sym (map-set waiter_view ws place c.change.new.waiter))
          (rising_set (waiters_view ws) place (waiter_view c.change.new.waiter) (waiter_view w) long named c.loop-id.invariant.rising);
      counted = All-set IsCounted ws place c.change.new.waiter c.change.ensures.counted c.loop-id.invariant.counted;
      indexed = subst (AreIndexed c.change.new.watchers.watchers) (sym (map-set waiter_view ws place c.change.new.waiter))
          (indexed_set c.loop-id.watchers.watchers c.change.new.watchers.watchers (waiters_view ws) place (waiter_view c.change.new.waiter)
          (waiter_view w)
          c.loop-id.invariant.rising long c.loop-id.invariant.indexed named
          (λ h sid. ap (watches sid) given
          ∙ (watches_on c.args.moments.now sid (waiter_view w) (ap still_waits (sym given) ∙ h) ∙ ap (watches sid) seen))
          (λ sid. c.change.ensures.watchers sid
          ∙ ap (λ n. if still_waits (waiter_view c.change.new.waiter) then serials_of sid c.loop-id.watchers.watchers
          else filter (λ id. not (id == n)) (serials_of sid c.loop-id.watchers.watchers))
          (ap (λ (x : Waiter). x.id) (sym c.index-waiters-place.is) ∙ ap (λ (k : StoredWaiter). k.id) seen)));
      room = omega (arith, c.loop-id.invariant.room, c.change.ensures.room);
    }

pub returns-clause-waiters : goal.returns-clause-waiters
returns-clause-waiters g c =
    let old = waiters_view c.args.waiters.now in
    changed_all (touched_by c.args.moments.now) (with_moments c.args.moments.now) (stays_all c.args.moments.now) c.loop-id.start old
    (waiters_view c.loop-id.waiters)
    (sym c.loop-id.invariant.left ∙ drop_all c.loop-id.id-index c.args.touched.now c.loop-id-test.false) c.loop-id.invariant.waiters
