use Rattle.std.proofs.Common.{◌≡◌, ◌≤◌, ◌<◌, [], ◌∷◌, ◌++◌, List, length, slice_get, Some, None, refl, sym, ap, subst, ◌∙◌, arith}
use Rattle.std.specs.declared.alloc.Global.{Global}
use Rattle.order_lanes.specs.Lane.{sent_in}
use Rattle.order_lanes.specs.LaneOrders.{orders_of_lane}
use Rattle.s6_events.specs.declared.order.Order.{Order}
use Rattle.tree_core.specs.Effect.{outcome_of}
use Rattle.tree_core.specs.Limits.{order_limit}
use Rattle.tree_core.specs.StandsFor.{StandsFor, StoredTree}
use Rattle.tree_core.specs.declared.input.Input.{Input}
use Rattle.run_records.specs.Runs.{RunStep}
use Rattle.locked_services.specs.Running.{RunningView, run_limit}
use Rattle.locked_services.proofs.Lasting.{GoesTo, sound_step}
use Rattle.locked_services.proofs.running.RunningTree.make_kept.Goals as goal

pub invariant_of-self-2 : goal.invariant_of-self-2
invariant_of-self-2 g c =
    let old = c.self.inside in
    let v : RunningView = record {
      opening = old.opening;
      tree = old.tree.value;
      steps = old.run.steps;
      drains = old.drains.items;
      held = old.held;
      lanes = old.lanes.items;
    } in
    let w : RunningView = record {
      opening = old.opening;
      tree = c.apply_in_place.new.self;
      steps = c.add.new.self.steps;
      drains = old.drains.items;
      held = None;
      lanes = c.send_all.new.lanes.items;
    } in
    let kept : g.I.KeptInput.input c.args.kept ≡ c.in-Some.input =
    let is = sym c.requires.held ∙ (ap (λ (v : RunningView). v.held) (sym c.self.view_is) ∙ c.in-Some.is) in cc (is) in
    let s : RunStep = record { input = c.in-Some.input; outcome = outcome_of c.apply_in_place.new.effect } in
    let steps : c.add.new.self.steps ≡ old.run.steps ++ s ∷ [] =
    c.add.ensures
    ∙ (ap (λ (xs : List RunStep). xs ++ record { input = g.I.KeptInput.input c.args.kept; outcome = s.outcome } ∷ []) c.reserve.ensures.steps
    ∙ ap (λ (j : Input Global). old.run.steps ++ record { input = j; outcome = s.outcome } ∷ []) kept) in
    let goes : GoesTo v.tree w.tree s = record {
      goes = λ m stands. c.in_ok-apply_in_place.ensures.step m (subst (λ (t : StoredTree). StandsFor t m) (sym c.deref_mut.ensures.value) stands);
    } in
    sound_step v w s c.self.invariant c.in-Some.is goes refl steps refl refl c.send_all.ensures.len
    (λ k below. c.send_all.ensures.sent k below
    ∙ ap (λ (os : List Order). sent_in k old.lanes.items ++ orders_of_lane (length old.lanes.items) k os) c.as_slice.ensures.value)
    (subst (λ (v : RunningView). length v.steps < run_limit) (sym c.self.view_is) c.requires.few)

pub returns-clause-made : goal.returns-clause-made
returns-clause-made g c =
    let kept : g.I.KeptInput.input c.args.kept ≡ c.in-Some.input =
    let is = sym c.requires.held ∙ (ap (λ (v : RunningView). v.held) (sym c.self.view_is) ∙ c.in-Some.is) in cc (is) in
    let s : RunStep = record { input = c.in-Some.input; outcome = outcome_of c.apply_in_place.new.effect } in
    let steps : c.add.new.self.steps ≡ c.self.inside.run.steps ++ s ∷ [] =
    c.add.ensures
    ∙ (ap (λ (xs : List RunStep). xs ++ record { input = g.I.KeptInput.input c.args.kept; outcome = s.outcome } ∷ []) c.reserve.ensures.steps
    ∙ ap (λ (j : Input Global). c.self.inside.run.steps ++ record { input = j; outcome = s.outcome } ∷ []) kept) in (
      refl,
      (s, ap (λ (v : RunningView). v.held) (sym c.self.view_is) ∙ c.in-Some.is, steps ∙ ap (λ (v : RunningView). v.steps ++ s ∷ []) c.self.view_is),
    )

pub send_all-requires-clause-room : goal.send_all-requires-clause-room
send_all-requires-clause-room g c k l at =
    let r : order_limit ≤ l.free = c.requires.room k l (subst (λ (v : RunningView). slice_get v.lanes k ≡ Some l) c.self.view_is at) in
    let n : length c.as_slice.result.now ≤ order_limit = c.as_slice.ensures.fits in
    omega arith
