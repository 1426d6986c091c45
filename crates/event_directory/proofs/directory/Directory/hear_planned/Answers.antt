use Rattle.std.proofs.Common.{◌++◌, take, map, ap, sym, ◌∙◌}
use Rattle.event_directory.specs.Stored.{greatest_offset, kept_in, planned_standing, standing_of_stored}
use Rattle.event_directory.proofs.Kept.{forgotten, forgotten_standing, plan_within, slice_back_planned}
use Rattle.event_directory.proofs.directory.Directory.hear_planned.Goals as goal

pub forget-self-inside-requires : goal.forget-self-inside-requires
forget-self-inside-requires g c =
    rw (
      c.deref-2.ensures.value,
      slice_back_planned c.hear_planned_all.new.subscriptions c.self.inside.subscriptions.items c.deref_mut.result.now _
          c.deref_mut.ensures.value c.deref_mut.ensures.len c.hear_planned_all.ensures.standing,
      c.put_after.ensures ∙ ap (λ l. take c.self.inside.heard c.self.inside.text.items ++ l) c.deref.ensures.value,
    )
    (plan_within c.self.inside.text.items c.self.inside.heard c.self.inside.is_planned c.self.inside.planned.items _
    c.hear_planned_all.new.subscriptions c.self.inside.subscriptions.items c.self.invariant c.if-not-self.false
    (c.hear_planned_all.ensures.standing ∙ ap (map planned_standing) c.deref_mut.ensures.value))

pub invariant_of-self : goal.invariant_of-self
invariant_of-self g c =
    rw (
      slice_back_planned c.hear_planned_all.new.subscriptions c.self.inside.subscriptions.items c.deref_mut.result.now _
          c.deref_mut.ensures.value c.deref_mut.ensures.len c.hear_planned_all.ensures.standing,
      c.forget-self-inside.ensures.text,
      c.put_after.ensures ∙ ap (λ l. take c.self.inside.heard c.self.inside.text.items ++ l) c.deref.ensures.value,
    )
    (forgotten (take c.self.inside.heard c.self.inside.text.items ++ c.self.inside.planned.items) c.self.inside.planned.items _
    c.hear_planned_all.new.subscriptions
    (plan_within c.self.inside.text.items c.self.inside.heard c.self.inside.is_planned c.self.inside.planned.items _
    c.hear_planned_all.new.subscriptions c.self.inside.subscriptions.items c.self.invariant c.if-not-self.false
    (c.hear_planned_all.ensures.standing ∙ ap (map planned_standing) c.deref_mut.ensures.value))
    (c.hear_planned_all.ensures.prepared ∙ sym c.hear_planned_all.ensures.standing) c.forget-self-inside.result
    (c.forget-self-inside.ensures.left ∙ ap (λ ss. greatest_offset (map standing_of_stored ss)) (c.deref-2.ensures.value
    ∙ slice_back_planned c.hear_planned_all.new.subscriptions c.self.inside.subscriptions.items c.deref_mut.result.now _
    c.deref_mut.ensures.value c.deref_mut.ensures.len c.hear_planned_all.ensures.standing)))

pub returns-clause-after : goal.returns-clause-after
returns-clause-after g c =
    rw (
      slice_back_planned c.hear_planned_all.new.subscriptions c.self.inside.subscriptions.items c.deref_mut.result.now _
          c.deref_mut.ensures.value c.deref_mut.ensures.len c.hear_planned_all.ensures.standing,
      c.forget-self-inside.ensures.text,
      c.put_after.ensures ∙ ap (λ l. take c.self.inside.heard c.self.inside.text.items ++ l) c.deref.ensures.value,
      ← c.self.view_is,
      c.if-not-self.false,
    )
    (forgotten_standing (take c.self.inside.heard c.self.inside.text.items ++ c.self.inside.planned.items)
    (map standing_of_stored c.hear_planned_all.new.subscriptions)
    (plan_within c.self.inside.text.items c.self.inside.heard c.self.inside.is_planned c.self.inside.planned.items _
    c.hear_planned_all.new.subscriptions c.self.inside.subscriptions.items c.self.invariant c.if-not-self.false
    (c.hear_planned_all.ensures.standing ∙ ap (map planned_standing) c.deref_mut.ensures.value)) c.forget-self-inside.result
    (c.forget-self-inside.ensures.left ∙ ap (λ ss. greatest_offset (map standing_of_stored ss)) (c.deref-2.ensures.value
    ∙ slice_back_planned c.hear_planned_all.new.subscriptions c.self.inside.subscriptions.items c.deref_mut.result.now _
    c.deref_mut.ensures.value c.deref_mut.ensures.len c.hear_planned_all.ensures.standing))
    ∙ ap (map (kept_in (take c.self.inside.heard c.self.inside.text.items ++ c.self.inside.planned.items)))
    (c.hear_planned_all.ensures.standing ∙ ap (map planned_standing) c.deref_mut.ensures.value))
