use Rattle.std.proofs.Common.{map, ap, ◌∙◌}
use Rattle.event_directory.specs.Stored.{planned_standing, standing_of_stored}
use Rattle.event_directory.proofs.Kept.{begun, same_planned, slice_back, take_again}
use Rattle.event_directory.proofs.directory.Directory.begin.Goals as goal

pub invariant_of-self : goal.invariant_of-self
invariant_of-self g c =
    rw (
      slice_back c.begin_all.new.subscriptions c.self.inside.subscriptions.items c.deref_mut.result.now _
          c.deref_mut.ensures.value c.deref_mut.ensures.len c.begin_all.ensures.same,
      c.truncate.ensures.items,
      c.truncate.ensures.capacity,
    )
    (begun c.self.inside.text.items c.self.inside.heard c.self.inside.is_planned c.self.inside.planned.items _
    c.begin_all.new.subscriptions c.self.inside.subscriptions.items c.self.invariant
    (c.begin_all.ensures.same ∙ ap (map standing_of_stored) c.deref_mut.ensures.value)
    (c.begin_all.ensures.planned ∙ ap (map planned_standing) c.deref_mut.ensures.value)
    (c.begin_all.ensures.prepared ∙ ap (map standing_of_stored) c.deref_mut.ensures.value))

pub returns-clause-planned : goal.returns-clause-planned
returns-clause-planned g c =
    rw (
      slice_back c.begin_all.new.subscriptions c.self.inside.subscriptions.items c.deref_mut.result.now _
          c.deref_mut.ensures.value c.deref_mut.ensures.len c.begin_all.ensures.same,
      c.truncate.ensures.items,
      ← c.self.view_is,
    )
    (same_planned c.self.inside.is_planned _ _ c.self.inside.planned.items c.begin_all.new.subscriptions c.self.inside.subscriptions.items
    (take_again c.self.inside.heard c.self.inside.text.items c.self.invariant.there)
    (c.begin_all.ensures.same ∙ ap (map standing_of_stored) c.deref_mut.ensures.value)
    (c.begin_all.ensures.planned ∙ ap (map planned_standing) c.deref_mut.ensures.value))
