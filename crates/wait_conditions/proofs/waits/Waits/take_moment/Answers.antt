use Rattle.std.proofs.Common.{◌∙◌, ◌<◌, ◌≤◌, ◌+◌, ◌∷◌, [], All, ap, sym, subst, refl, arith, filter, append-nil}
use Rattle.std.specs.List.{filter_map}
use Rattle.s6_events.specs.Newest.{mark_of}
use Rattle.wait_conditions.specs.Kept.{StoredWaiter, release_seen, releases_seen}
use Rattle.wait_conditions.specs.States.{state_in}
use Rattle.wait_conditions.specs.SupervisorState.{state_after}
use Rattle.wait_conditions.specs.WaitsFields.{waiters_view}
use Rattle.wait_conditions.specs.Watchers.{touched_by}
use Rattle.wait_conditions.proofs.Joining.{placed_later}
use Rattle.wait_conditions.proofs.Leaving.{alike_touched}
use Rattle.wait_conditions.proofs.Ordered.{below_moments, placed_moments}
use Rattle.wait_conditions.proofs.Stepping.{released_alike}
use Rattle.wait_conditions.proofs.waits.Waits.take_moment.Goals as goal

pub invariant_of-self-2 : goal.invariant_of-self-2
invariant_of-self-2 g c =
    let ms = c.args.moment.now ∷ [] in
    let W = c.self.inside.list.waiters in
    record {
      below = subst (All (λ (k : StoredWaiter). k.id < c.self.inside.next)) (sym c.change.ensures.waiters)
          (below_moments c.self.inside.next ms W c.self.invariant.below);
      placed = subst (All (λ (k : StoredWaiter). k.place ≤ c.self.inside.count + 1)) (sym c.change.ensures.waiters)
          (placed_moments (c.self.inside.count + 1) ms W
          (placed_later c.self.inside.count (c.self.inside.count + 1) W (omega arith) c.self.invariant.placed));
      few = omega (arith, c.if-self-ge-COUNT_LIMIT.false);
    }

pub returns-clause-ok : goal.returns-clause-ok
returns-clause-ok g c =
    let m = c.args.moment.now in
    let W = c.self.inside.list.waiters in
    rw (← c.self.view_is) (
      c.in_ok-released.ensures.released
          ∙ (ap (λ ws. releases_seen (m ∷ []) (waiters_view ws)) c.deref_mut.ensures.value
          ∙ (ap (releases_seen (m ∷ [])) c.in_ok-copies.ensures.copies
          ∙ (sym (released_alike (m ∷ []) W (filter (touched_by (m ∷ [])) W) (alike_touched (m ∷ []) W))
          ∙ append-nil (filter_map (release_seen m) W)))),
      record {
        count = refl;
        states = λ sid. c.take_in.ensures.states sid ∙ ap (λ runs. state_after (mark_of sid m) (state_in runs sid)) c.in_ok-reserve.ensures.runs;
        waiters = c.change.ensures.waiters;
        next_is = refl;
      },
    )
