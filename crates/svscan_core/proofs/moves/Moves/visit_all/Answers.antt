use Rattle.std.proofs.Common.{◌≡◌, ◌∙◌, ◌<◌, sym, ap, subst, arith, length, ℕ}
use Rattle.std.proofs.lemmas.List.{length-map}
use Rattle.deadlines.specs.Timers.{is_rising}
use Rattle.supervise_core.specs.Service.{Supervised}
use Rattle.svscan_core.specs.Moving.{with_changes, step_so_far, TakesUpTo}
use Rattle.svscan_core.specs.Table.{charts_of}
use Rattle.svscan_core.specs.Visit.{visit_move}
use Rattle.svscan_core.proofs.Places.{stands_at}
use Rattle.svscan_core.proofs.Taking.{takes_more, takes_all, length_touched}
use Rattle.svscan_core.proofs.moves.Moves.visit_all.Goals as goal

pub visit_at-requires-clause-order : goal.visit_at-requires-clause-order
visit_at-requires-clause-order g c = ap is_rising c.loop-place.invariant.serials ∙ c.requires.order

pub loop-place-preserved : goal.loop-place-preserved
loop-place-preserved g c =
    let services = c.args.slots.now.services in
    let ss = with_changes services c.args.self.now.touched.items in
    let p = c.loop-place.place in
    let count : length (charts_of ss) ≡ c.len-place-end.result =
    length-map ss (λ (s : Supervised). s.chart) ∙ (length_touched services c.args.self.now.touched.items ∙ sym c.len-place-end.ensures.count) in
    let at = stands_at (charts_of ss) p (subst (λ (n : ℕ). p < n) (sym count) c.loop-place-test.true) in
    record {
      takes =
          takes_more c.args.now (visit_move c.args.visit c.args.now) p at.item (step_so_far services c.args.self.now)
          (step_so_far services c.loop-place.self) (step_so_far services c.visit_at.new.self)
          at.there c.loop-place.invariant.takes (λ there. c.in_ok-visit_at.ensures.visited.takes at.item there);
      serials = c.in_ok-visit_at.ensures.visited.serials ∙ c.loop-place.invariant.serials;
      names = λ h. c.in_ok-visit_at.ensures.visited.names (c.loop-place.invariant.names h);
      few = omega (arith, c.in_ok-visit_at.ensures.few, c.loop-place.invariant.few);
      fires = λ e. omega (arith, c.in_ok-visit_at.ensures.fires e, c.loop-place.invariant.fires e);
      earlier = omega (arith, c.in_ok-visit_at.ensures.visited.more, c.loop-place.invariant.earlier);
      unvisited = c.in_ok-visit_at.ensures.unvisited;
    }

pub returns-clause-takes : goal.returns-clause-takes
returns-clause-takes g c =
    let services = c.args.slots.now.services in
    let count : length (with_changes services c.args.self.now.touched.items) ≡ c.loop-place.place =
    length_touched services c.args.self.now.touched.items
    ∙ (sym c.len-place-end.ensures.count ∙ omega (arith, c.loop-place-test.false, c.loop-place.auto.place-end)) in
    takes_all c.args.now (visit_move c.args.visit c.args.now) (step_so_far services c.args.self.now) (step_so_far services c.loop-place.self)
    (subst (λ (n : ℕ). TakesUpTo c.args.now (visit_move c.args.visit c.args.now) n (step_so_far services c.args.self.now)
    (step_so_far services c.loop-place.self)) (sym count) c.loop-place.invariant.takes)
