use Rattle.std.proofs.Common.{◌<◌, length, arith, ap, ◌∙◌}
use Rattle.event_directory.specs.Stored.{prepared_standing, standing_of_stored}
use Rattle.event_directory.proofs.OneText.{greatest-set, offset-below}
use Rattle.event_directory.proofs.Walk.{walk_planned, walk_same, walk_rest, walk_next, walk_hit, walk_no_hit}
use Rattle.event_directory.proofs.subscriptions.prepare_all.Goals as goal
use Rattle.event_directory.proofs.subscriptions.prepare_all.Goals.{in-Some+in_ok-push-in-Some, in-None}

pub prepare_hit-requires : goal.prepare_hit-requires
prepare_hit-requires g c =
    offset-below prepared_standing c.loop-subscription.subscriptions c.args.subscriptions.now c.loop-subscription.subscription-index
    c.subscription-item.result _ (omega arith) c.loop-subscription.invariant.rest c.requires

pub returns-in_err-hit-clause-within : goal.returns-in_err-hit-clause-within
returns-in_err-hit-clause-within g c =
    greatest-set prepared_standing c.loop-subscription.subscriptions c.loop-subscription.subscription-index _ _
    c.loop-subscription.invariant.within
    (omega (
      arith,
      c.prepare_hit.ensures.within,
      offset-below prepared_standing c.loop-subscription.subscriptions c.args.subscriptions.now c.loop-subscription.subscription-index
          c.subscription-item.result _ (omega arith) c.loop-subscription.invariant.rest c.requires,
    ))

pub returns-in_err-push-in-Some-clause-within : goal.returns-in_err-push-in-Some-clause-within
returns-in_err-push-in-Some-clause-within g c =
    greatest-set prepared_standing c.loop-subscription.subscriptions c.loop-subscription.subscription-index _ _
    c.loop-subscription.invariant.within
    (omega (
      arith,
      c.prepare_hit.ensures.within,
      offset-below prepared_standing c.loop-subscription.subscriptions c.args.subscriptions.now c.loop-subscription.subscription-index
          c.subscription-item.result _ (omega arith) c.loop-subscription.invariant.rest c.requires,
    ))

pub returns-in_err-hit-clause-same : goal.returns-in_err-hit-clause-same
returns-in_err-hit-clause-same g c =
    walk_same standing_of_stored c.loop-subscription.subscriptions _ c.loop-subscription.subscription-index _ c.subscription-item.result
    (omega arith) c.loop-subscription.invariant.same c.prepare_hit.ensures.same

pub returns-in_err-hit-clause-planned : goal.returns-in_err-hit-clause-planned
returns-in_err-hit-clause-planned g c =
    walk_planned c.loop-subscription.subscriptions _ c.loop-subscription.subscription-index _ c.subscription-item.result (omega arith)
    c.loop-subscription.invariant.planned c.prepare_hit.ensures.same c.prepare_hit.ensures.planned

pub returns-in_err-push-in-Some-clause-planned : goal.returns-in_err-push-in-Some-clause-planned
returns-in_err-push-in-Some-clause-planned g c =
    walk_planned c.loop-subscription.subscriptions _ c.loop-subscription.subscription-index _ c.subscription-item.result (omega arith)
    c.loop-subscription.invariant.planned c.prepare_hit.ensures.same c.prepare_hit.ensures.planned

pub returns-in_err-push-in-Some-clause-same : goal.returns-in_err-push-in-Some-clause-same
returns-in_err-push-in-Some-clause-same g c =
    walk_same standing_of_stored c.loop-subscription.subscriptions _ c.loop-subscription.subscription-index _ c.subscription-item.result
    (omega arith) c.loop-subscription.invariant.same c.prepare_hit.ensures.same

pub loop-subscription-preserved : goal.loop-subscription-preserved
loop-subscription-preserved g c =
    elim c.match-branch-2.branch [
      | in-Some+in_ok-push-in-Some w ↦ let lt : c.loop-subscription.subscription-index < length c.loop-subscription.subscriptions = omega arith in
          rw w.subscriptions-is (record {
            same = walk_same standing_of_stored c.loop-subscription.subscriptions _ c.loop-subscription.subscription-index _
                c.subscription-item.result lt c.loop-subscription.invariant.same c.prepare_hit.ensures.same;
            planned = walk_planned c.loop-subscription.subscriptions _ c.loop-subscription.subscription-index _ c.subscription-item.result lt
                c.loop-subscription.invariant.planned c.prepare_hit.ensures.same c.prepare_hit.ensures.planned;
            within = greatest-set prepared_standing c.loop-subscription.subscriptions c.loop-subscription.subscription-index _ _
                c.loop-subscription.invariant.within
                (omega (
                  arith,
                  c.prepare_hit.ensures.within,
                  offset-below prepared_standing c.loop-subscription.subscriptions c.args.subscriptions.now c.loop-subscription.subscription-index
                      c.subscription-item.result _ lt c.loop-subscription.invariant.rest c.requires,
                ));
            rest = walk_rest c.loop-subscription.subscriptions c.args.subscriptions.now c.loop-subscription.subscription-index _
                c.loop-subscription.invariant.rest;
            done = walk_next g.F.Finds.test c.args.letter c.args.text.now c.loop-subscription.subscriptions _ c.loop-subscription.subscription-index _
                c.subscription-item.result lt
                c.loop-subscription.invariant.rest c.loop-subscription.invariant.done c.prepare_hit.ensures.same c.in_ok-hit.ensures.next;
            hits = walk_hit g.F.Finds.test c.args.letter c.args.text.now c.loop-subscription.subscriptions _ c.loop-subscription.subscription-index
                c.subscription-item.result c.loop-subscription.hits.items _ w.id.result c.in_ok-hit.field-0 w.in-Some.hit lt
                c.loop-subscription.invariant.rest c.loop-subscription.invariant.hits c.in_ok-hit.ensures.hit w.in-Some.is
                (w.id.ensures ∙ ap (λ s. s.id) c.prepare_hit.ensures.same) (ap (λ v. v.items) w.hits-is ∙ w.in_ok-push-in-Some.ensures.items);
          })
      | in-None w ↦ let lt : c.loop-subscription.subscription-index < length c.loop-subscription.subscriptions = omega arith in
          rw w.subscriptions-is (record {
            same = walk_same standing_of_stored c.loop-subscription.subscriptions _ c.loop-subscription.subscription-index _
                c.subscription-item.result lt c.loop-subscription.invariant.same c.prepare_hit.ensures.same;
            planned = walk_planned c.loop-subscription.subscriptions _ c.loop-subscription.subscription-index _ c.subscription-item.result lt
                c.loop-subscription.invariant.planned c.prepare_hit.ensures.same c.prepare_hit.ensures.planned;
            within = greatest-set prepared_standing c.loop-subscription.subscriptions c.loop-subscription.subscription-index _ _
                c.loop-subscription.invariant.within
                (omega (
                  arith,
                  c.prepare_hit.ensures.within,
                  offset-below prepared_standing c.loop-subscription.subscriptions c.args.subscriptions.now c.loop-subscription.subscription-index
                      c.subscription-item.result _ lt c.loop-subscription.invariant.rest c.requires,
                ));
            rest = walk_rest c.loop-subscription.subscriptions c.args.subscriptions.now c.loop-subscription.subscription-index _
                c.loop-subscription.invariant.rest;
            done = walk_next g.F.Finds.test c.args.letter c.args.text.now c.loop-subscription.subscriptions _ c.loop-subscription.subscription-index _
                c.subscription-item.result lt
                c.loop-subscription.invariant.rest c.loop-subscription.invariant.done c.prepare_hit.ensures.same c.in_ok-hit.ensures.next;
            hits = walk_no_hit g.F.Finds.test c.args.letter c.args.text.now c.loop-subscription.subscriptions _ c.loop-subscription.subscription-index
                c.subscription-item.result c.match-branch-2.hits.items c.in_ok-hit.field-0 lt
                c.loop-subscription.invariant.rest (ap (λ v. v.items) w.hits-is ∙ c.loop-subscription.invariant.hits) c.in_ok-hit.ensures.hit
                w.in-None.is;
          })
    ]
