use Rattle.std.proofs.Common.{◌<◌, ◌++◌, arith, length, map, option_to_list, sym, ap, ◌∙◌}
use Rattle.std.proofs.lemmas.List.{length-map}
use Rattle.std.proofs.lemmas.List.Elements.{All-set}
use Rattle.wait_conditions.specs.Kept.{waiter_view, with_moment, release_seen}
use Rattle.wait_conditions.specs.WaitsFields.{IsCounted}
use Rattle.wait_conditions.proofs.InPlace.{ChangedBelow, at_place, changed_more, noted_more}
use Rattle.wait_conditions.proofs.releasing.take_in_all.Goals as goal

pub loop-i-preserved : goal.loop-i-preserved
loop-i-preserved g c =
    let K = map waiter_view c.args.waiters.now in
    let within : c.loop-i.i < length K = omega (arith, length-map c.args.waiters.now waiter_view) in
    let below : ChangedBelow (with_moment c.args.moment.now) K c.loop-i.waiters c.loop-i.i =
    record { within = within; here = omega arith; now = c.loop-i.invariant.waiters } in
    let W = c.index-waiters-i.result in
    let is = c.index-waiters-i.is in
    record {
      counted = All-set IsCounted c.loop-i.waiters c.loop-i.i _ c.take_in_for_release-release.ensures.counted c.loop-i.invariant.counted;
      waiters = changed_more _ K c.loop-i.waiters c.loop-i.i W c.take_in_for_release-release.new.waiter below is
          (c.take_in_for_release-release.ensures.waiter ∙ ap (λ w. with_moment c.args.moment.now (waiter_view w)) (sym is));
      released =
          c.note.ensures.items
          ∙ (ap (λ o. c.loop-i.released.items ++ option_to_list o)
          (c.take_in_for_release-release.ensures.release ∙ ap (λ w. release_seen c.args.moment.now (waiter_view w)) (sym is))
          ∙ noted_more (release_seen c.args.moment.now) K c.loop-i.i (waiter_view W) _ _ within
          (at_place _ K _ _ W below is) c.loop-i.invariant.released);
      room = omega arith;
      capacity = c.note.ensures.capacity ∙ c.loop-i.invariant.capacity;
    }
