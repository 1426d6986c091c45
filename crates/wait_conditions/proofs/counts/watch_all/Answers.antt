use Rattle.std.proofs.Common.{◌<◌, arith, length, set, sym, ap, ◌∙◌}
use Rattle.std.proofs.lemmas.List.Edits.{map_over_more}
use Rattle.s6_events.specs.Newest.{mark_of}
use Rattle.wait_conditions.specs.declared.watched_service.WatchedService.{WatchedService}
use Rattle.wait_conditions.specs.declared.counts.ServiceCounts.{ServiceCounts}
use Rattle.wait_conditions.specs.Watched.{watched_after}
use Rattle.wait_conditions.specs.Counts.{counts_of, counts_after}
use Rattle.wait_conditions.proofs.Counted.{counts_of-set}
use Rattle.wait_conditions.proofs.counts.watch_all.Goals as goal

pub loop-i-preserved : goal.loop-i-preserved
loop-i-preserved c =
    let f = λ (w : WatchedService). watched_after c.args.condition (mark_of w.sid c.args.moment.now) w in
    let ws = c.loop-i.watched in
    let was = c.index-watched-i.result in
    let now = c.after-now.result in
    let within : c.loop-i.i < length ws = omega arith in
    record {
      watched = ap (λ w. set ws c.loop-i.i w)
          (c.after-now.ensures ∙ ap (λ o. watched_after c.args.condition o was) c.mark_in.ensures)
          ∙ map_over_more f c.args.watched.now ws c.loop-i.i was c.loop-i-test.true c.loop-i.invariant.watched c.index-watched-i.is;
      counted =
          c.after-counts.ensures
          ∙ (ap (λ (k : ServiceCounts). counts_after k was now) c.loop-i.invariant.counted
          ∙ (ap (λ (w : WatchedService). counts_after (counts_of ws) w now) c.index-watched-i.is
          ∙ sym (counts_of-set ws c.loop-i.i now was within)));
    }
