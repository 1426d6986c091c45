use Rattle.std.proofs.Common.{arith, drop, map, ap, ◌∙◌}
use Rattle.event_directory.specs.Stored.{prepared_standing, standing_of_stored}
use Rattle.event_directory.proofs.Kept.{planned_now, planned_text, slice_back}
use Rattle.event_directory.proofs.directory.Directory.stand_by.Goals as goal

pub invariant_of-self : goal.invariant_of-self
invariant_of-self g c =
    rw (
      slice_back c.plan_all.new.subscriptions c.self.inside.subscriptions.items c.deref_mut.result.now _
          c.deref_mut.ensures.value c.deref_mut.ensures.len c.plan_all.ensures.same,
      c.truncate.ensures.items,
      c.truncate.ensures.capacity,
    )
    (planned_now c.self.inside.text.items c.self.inside.heard c.self.inside.is_planned c.self.inside.planned.items _ _ _
    c.plan_all.new.subscriptions c.self.inside.subscriptions.items c.self.invariant
    (c.in_ok-self-inside.ensures ∙ ap (drop c.self.inside.heard) c.deref.ensures.value)
    (omega (arith, c.self.inside.text.ok.0, c.self.inside.text.ok.1))
    (c.plan_all.ensures.same ∙ ap (map standing_of_stored) c.deref_mut.ensures.value)
    (c.plan_all.ensures.planned ∙ ap (map prepared_standing) c.deref_mut.ensures.value)
    (c.plan_all.ensures.prepared ∙ ap (map standing_of_stored) c.deref_mut.ensures.value))

pub returns-clause-planned : goal.returns-clause-planned
returns-clause-planned g c =
    rw (
      slice_back c.plan_all.new.subscriptions c.self.inside.subscriptions.items c.deref_mut.result.now _
          c.deref_mut.ensures.value c.deref_mut.ensures.len c.plan_all.ensures.same,
      c.truncate.ensures.items,
      ← c.self.view_is,
    )
    (planned_text c.self.inside.text.items c.self.inside.heard _
    c.plan_all.new.subscriptions c.self.inside.subscriptions.items c.self.invariant.there
    (c.in_ok-self-inside.ensures ∙ ap (drop c.self.inside.heard) c.deref.ensures.value)
    (c.plan_all.ensures.planned ∙ ap (map prepared_standing) c.deref_mut.ensures.value))
