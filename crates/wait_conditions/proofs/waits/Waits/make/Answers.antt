use Rattle.std.proofs.Common.{◌≡◌, ◌∙◌, ◌<◌, ◌≤◌, ◌+◌, ◌∷◌, ◌++◌, [], All, ap, sym, subst, arith, length, filter}
use Rattle.std.specs.Prelude.{◌^◌}
use Rattle.std.proofs.lemmas.List.Elements.{All-filter, All-push}
use Rattle.wait_conditions.specs.Kept.{StoredWaiter, waiter_view, is_other}
use Rattle.wait_conditions.specs.PlanFields.{list_change_of}
use Rattle.wait_conditions.specs.Stands.{StoredWaits}
use Rattle.wait_conditions.specs.WaitsPlans.{PlannedWaits, JoinsAt, JoinsNext}
use Rattle.wait_conditions.proofs.Joining.{next_on, below_later, placed_later}
use Rattle.wait_conditions.proofs.Ordered.{below_moments, placed_moments}
use Rattle.wait_conditions.proofs.waits.Waits.make.Goals as goal

pub invariant_of-self : goal.invariant_of-self
invariant_of-self g c =
    let W = c.self.inside.list.waiters in
    let ms = c.deref-3.result.now in
    let next = c.self.inside.next in
    let count = c.self.inside.count in
    let serial : JoinsNext next (list_change_of c.plan.inside.change) c.plan.inside.next =
    subst (λ (p : PlannedWaits). JoinsNext next p.change p.next) (sym c.plan.view_is)
    (subst (λ (s : StoredWaits). JoinsNext s.next c.args.plan.change c.args.plan.next) (sym c.self.view_is) c.requires.serial) in
    let few : count + length c.plan.inside.moments.items < 2 ^ 63 =
    subst (λ (p : PlannedWaits). count + length p.moments < 2 ^ 63) (sym c.plan.view_is)
    (subst (λ (s : StoredWaits). s.count + length c.args.plan.moments < 2 ^ 63) (sym c.self.view_is) c.requires.count) in
    record {
      below = subst (All (λ (k : StoredWaiter). k.id < c.plan.inside.next)) (sym c.change.ensures.waiters)
          (below_moments c.plan.inside.next ms W
          (below_later next c.plan.inside.next W
          (next_on next c.plan.inside.next (list_change_of c.plan.inside.change) serial) c.self.invariant.below));
      placed = subst (All (λ (k : StoredWaiter). k.place ≤ count + c.len.result)) (sym c.change.ensures.waiters)
          (placed_moments (count + c.len.result) ms W (placed_later count (count + c.len.result) W (omega arith) c.self.invariant.placed));
      few = omega (arith, few, c.len.ensures, c.deref.ensures.len, ap length c.deref.ensures.value);
    }

pub push_boxed-requires-clause-serial : goal.push_boxed-requires-clause-serial
push_boxed-requires-clause-serial g c =
    let W = c.self.inside.list.waiters in
    let next = c.self.inside.next in
    let serial : JoinsNext next (list_change_of c.plan.inside.change) c.plan.inside.next =
    subst (λ (p : PlannedWaits). JoinsNext next p.change p.next) (sym c.plan.view_is)
    (subst (λ (s : StoredWaits). JoinsNext s.next c.args.plan.change c.args.plan.next) (sym c.self.view_is) c.requires.serial) in
    let joins : (c.in-Join.waiter.value.id ≡ next) × (c.plan.inside.next ≡ next + 1) =
    subst (λ change. JoinsNext next (list_change_of change) c.plan.inside.next) c.in-Join.is serial in
    let id = c.in-Join.waiter.value.id in
    subst (All (λ (k : StoredWaiter). k.id < id)) (sym c.change.ensures.waiters)
    (below_moments id c.deref-3.result.now W (below_later next id W (omega (arith, joins.0)) c.self.invariant.below))

pub push_boxed-requires-clause-place : goal.push_boxed-requires-clause-place
push_boxed-requires-clause-place g c =
    let W = c.self.inside.list.waiters in
    let count = c.self.inside.count in
    let place : JoinsAt (count + length c.plan.inside.moments.items) (list_change_of c.plan.inside.change) =
    subst (λ (p : PlannedWaits). JoinsAt (count + length p.moments) p.change) (sym c.plan.view_is)
    (subst (λ (s : StoredWaits). JoinsAt (s.count + length c.args.plan.moments) c.args.plan.change) (sym c.self.view_is) c.requires.place) in
    let joins : c.in-Join.waiter.value.place ≡ count + length c.plan.inside.moments.items =
    subst (λ change. JoinsAt (count + length c.plan.inside.moments.items) (list_change_of change)) c.in-Join.is place in
    let begins = c.in-Join.waiter.value.place in
    subst (All (λ (k : StoredWaiter). k.place ≤ begins)) (sym c.change.ensures.waiters)
    (placed_moments begins c.deref-3.result.now W (placed_later count begins W (omega (arith, joins)) c.self.invariant.placed))

pub invariant_of-self-in-Join : goal.invariant_of-self-in-Join
invariant_of-self-in-Join g c =
    let W = c.self.inside.list.waiters in
    let ms = c.deref-3.result.now in
    let next = c.self.inside.next in
    let count = c.self.inside.count in
    let k = waiter_view c.in-Join.waiter.value in
    let serial : JoinsNext next (list_change_of c.plan.inside.change) c.plan.inside.next =
    subst (λ (p : PlannedWaits). JoinsNext next p.change p.next) (sym c.plan.view_is)
    (subst (λ (s : StoredWaits). JoinsNext s.next c.args.plan.change c.args.plan.next) (sym c.self.view_is) c.requires.serial) in
    let joins : (c.in-Join.waiter.value.id ≡ next) × (c.plan.inside.next ≡ next + 1) =
    subst (λ change. JoinsNext next (list_change_of change) c.plan.inside.next) c.in-Join.is serial in
    let place : JoinsAt (count + length c.plan.inside.moments.items) (list_change_of c.plan.inside.change) =
    subst (λ (p : PlannedWaits). JoinsAt (count + length p.moments) p.change) (sym c.plan.view_is)
    (subst (λ (s : StoredWaits). JoinsAt (s.count + length c.args.plan.moments) c.args.plan.change) (sym c.self.view_is) c.requires.place) in
    let begins : c.in-Join.waiter.value.place ≡ count + length c.plan.inside.moments.items =
    subst (λ change. JoinsAt (count + length c.plan.inside.moments.items) (list_change_of change)) c.in-Join.is place in
    let few : count + length c.plan.inside.moments.items < 2 ^ 63 =
    subst (λ (p : PlannedWaits). count + length p.moments < 2 ^ 63) (sym c.plan.view_is)
    (subst (λ (s : StoredWaits). s.count + length c.args.plan.moments < 2 ^ 63) (sym c.self.view_is) c.requires.count) in
    let now = c.push_boxed.ensures ∙ ap (λ ks. ks ++ k ∷ []) c.change.ensures.waiters in
    record {
      below = subst (All (λ (j : StoredWaiter). j.id < c.plan.inside.next)) (sym now)
          (All-push (λ (j : StoredWaiter). j.id < c.plan.inside.next) _ k
          (below_moments c.plan.inside.next ms W (below_later next c.plan.inside.next W (omega (arith, joins.1)) c.self.invariant.below))
          (omega (arith, joins.0, joins.1)));
      placed = subst (All (λ (j : StoredWaiter). j.place ≤ count + c.len.result)) (sym now)
          (All-push (λ (j : StoredWaiter). j.place ≤ count + c.len.result) _ k
          (placed_moments (count + c.len.result) ms W (placed_later count (count + c.len.result) W (omega arith) c.self.invariant.placed))
          (omega (arith, begins, c.len.ensures, c.deref.ensures.len, ap length c.deref.ensures.value)));
      few = omega (arith, few, c.len.ensures, c.deref.ensures.len, ap length c.deref.ensures.value);
    }

pub invariant_of-self-in-Leave : goal.invariant_of-self-in-Leave
invariant_of-self-in-Leave g c =
    let W = c.self.inside.list.waiters in
    let ms = c.deref-3.result.now in
    let next = c.self.inside.next in
    let count = c.self.inside.count in
    let serial : JoinsNext next (list_change_of c.plan.inside.change) c.plan.inside.next =
    subst (λ (p : PlannedWaits). JoinsNext next p.change p.next) (sym c.plan.view_is)
    (subst (λ (s : StoredWaits). JoinsNext s.next c.args.plan.change c.args.plan.next) (sym c.self.view_is) c.requires.serial) in
    let few : count + length c.plan.inside.moments.items < 2 ^ 63 =
    subst (λ (p : PlannedWaits). count + length p.moments < 2 ^ 63) (sym c.plan.view_is)
    (subst (λ (s : StoredWaits). s.count + length c.args.plan.moments < 2 ^ 63) (sym c.self.view_is) c.requires.count) in
    let now = c.remove.ensures ∙ ap (filter (is_other c.in-Leave.id)) c.change.ensures.waiters in
    record {
      below = subst (All (λ (j : StoredWaiter). j.id < c.plan.inside.next)) (sym now)
          (All-filter (is_other c.in-Leave.id) (λ (j : StoredWaiter). j.id < c.plan.inside.next) _
          (below_moments c.plan.inside.next ms W
          (below_later next c.plan.inside.next W
          (next_on next c.plan.inside.next (list_change_of c.plan.inside.change) serial) c.self.invariant.below)));
      placed = subst (All (λ (j : StoredWaiter). j.place ≤ count + c.len.result)) (sym now)
          (All-filter (is_other c.in-Leave.id) (λ (j : StoredWaiter). j.place ≤ count + c.len.result) _
          (placed_moments (count + c.len.result) ms W (placed_later count (count + c.len.result) W (omega arith) c.self.invariant.placed)));
      few = omega (arith, few, c.len.ensures, c.deref.ensures.len, ap length c.deref.ensures.value);
    }
