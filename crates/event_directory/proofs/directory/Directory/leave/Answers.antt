use Rattle.std.proofs.Common.{take, map, ap, sym, ◌∙◌}
use Rattle.event_directory.specs.Stored.{greatest_offset, kept_in, standing_of_stored}
use Rattle.event_directory.proofs.Kept.{forgotten, forgotten_standing, left_planned, left_within, slice_back}
use Rattle.event_directory.proofs.Looks.{without_planned, without_standing}
use Rattle.event_directory.proofs.directory.Directory.leave.Goals as goal

pub forget-self-inside-requires : goal.forget-self-inside-requires
forget-self-inside-requires g c =
    rw (
      c.deref.ensures.value,
      slice_back c.begin_all.new.subscriptions c.drop_one.new.subscriptions.items c.deref_mut.result.now _
          c.deref_mut.ensures.value c.deref_mut.ensures.len c.begin_all.ensures.same,
      c.truncate.ensures.items,
    )
    (left_within c.self.inside.text.items c.self.inside.heard c.self.inside.is_planned c.self.inside.planned.items _
    c.begin_all.new.subscriptions c.self.inside.subscriptions.items c.args.id c.self.invariant
    (c.begin_all.ensures.same ∙ ap (map standing_of_stored) (c.deref_mut.ensures.value ∙ c.drop_one.ensures)))

pub invariant_of-self : goal.invariant_of-self
invariant_of-self g c =
    rw (
      slice_back c.begin_all.new.subscriptions c.drop_one.new.subscriptions.items c.deref_mut.result.now _
          c.deref_mut.ensures.value c.deref_mut.ensures.len c.begin_all.ensures.same,
      c.forget-self-inside.ensures.text,
      c.truncate.ensures.items,
      c.if-not-self.true,
    )
    (forgotten (take c.self.inside.heard c.self.inside.text.items) c.self.inside.planned.items _
    c.begin_all.new.subscriptions
    (left_within c.self.inside.text.items c.self.inside.heard c.self.inside.is_planned c.self.inside.planned.items _
    c.begin_all.new.subscriptions c.self.inside.subscriptions.items c.args.id c.self.invariant
    (c.begin_all.ensures.same ∙ ap (map standing_of_stored) (c.deref_mut.ensures.value ∙ c.drop_one.ensures)))
    (c.begin_all.ensures.prepared ∙ sym c.begin_all.ensures.same) c.forget-self-inside.result
    (c.forget-self-inside.ensures.left ∙ ap (λ ss. greatest_offset (map standing_of_stored ss)) (c.deref.ensures.value
    ∙ slice_back c.begin_all.new.subscriptions c.drop_one.new.subscriptions.items c.deref_mut.result.now _
    c.deref_mut.ensures.value c.deref_mut.ensures.len c.begin_all.ensures.same)))

pub invariant_of-self-else-not-self : goal.invariant_of-self-else-not-self
invariant_of-self-else-not-self g c =
    rw c.drop_one.ensures
    (left_planned c.self.inside.text.items c.self.inside.heard c.self.inside.is_planned c.self.inside.planned.items _
    c.self.inside.subscriptions.items c.args.id c.self.invariant c.if-not-self.false)

pub returns-then-not-self-clause-after : goal.returns-then-not-self-clause-after
returns-then-not-self-clause-after g c =
    rw (
      slice_back c.begin_all.new.subscriptions c.drop_one.new.subscriptions.items c.deref_mut.result.now _
          c.deref_mut.ensures.value c.deref_mut.ensures.len c.begin_all.ensures.same,
      c.forget-self-inside.ensures.text,
      c.truncate.ensures.items,
      ← c.self.view_is,
    )
    (forgotten_standing (take c.self.inside.heard c.self.inside.text.items)
    (map standing_of_stored c.begin_all.new.subscriptions)
    (left_within c.self.inside.text.items c.self.inside.heard c.self.inside.is_planned c.self.inside.planned.items _
    c.begin_all.new.subscriptions c.self.inside.subscriptions.items c.args.id c.self.invariant
    (c.begin_all.ensures.same ∙ ap (map standing_of_stored) (c.deref_mut.ensures.value ∙ c.drop_one.ensures))) c.forget-self-inside.result
    (c.forget-self-inside.ensures.left ∙ ap (λ ss. greatest_offset (map standing_of_stored ss)) (c.deref.ensures.value
    ∙ slice_back c.begin_all.new.subscriptions c.drop_one.new.subscriptions.items c.deref_mut.result.now _
    c.deref_mut.ensures.value c.deref_mut.ensures.len c.begin_all.ensures.same))
    ∙ ap (map (kept_in (take c.self.inside.heard c.self.inside.text.items)))
    (c.begin_all.ensures.same ∙ ap (map standing_of_stored) (c.deref_mut.ensures.value ∙ c.drop_one.ensures))
    ∙ without_standing c.args.id _ c.self.inside.subscriptions.items)

pub returns-then-not-self-clause-planned : goal.returns-then-not-self-clause-planned
returns-then-not-self-clause-planned g c =
    rw (
      slice_back c.begin_all.new.subscriptions c.drop_one.new.subscriptions.items c.deref_mut.result.now _
          c.deref_mut.ensures.value c.deref_mut.ensures.len c.begin_all.ensures.same,
      c.forget-self-inside.ensures.text,
      c.truncate.ensures.items,
      ← c.self.view_is,
      c.if-not-self.true,
    )
    (forgotten_standing (take c.self.inside.heard c.self.inside.text.items)
    (map standing_of_stored c.begin_all.new.subscriptions)
    (left_within c.self.inside.text.items c.self.inside.heard c.self.inside.is_planned c.self.inside.planned.items _
    c.begin_all.new.subscriptions c.self.inside.subscriptions.items c.args.id c.self.invariant
    (c.begin_all.ensures.same ∙ ap (map standing_of_stored) (c.deref_mut.ensures.value ∙ c.drop_one.ensures))) c.forget-self-inside.result
    (c.forget-self-inside.ensures.left ∙ ap (λ ss. greatest_offset (map standing_of_stored ss)) (c.deref.ensures.value
    ∙ slice_back c.begin_all.new.subscriptions c.drop_one.new.subscriptions.items c.deref_mut.result.now _
    c.deref_mut.ensures.value c.deref_mut.ensures.len c.begin_all.ensures.same))
    ∙ ap (map (kept_in (take c.self.inside.heard c.self.inside.text.items)))
    (c.begin_all.ensures.same ∙ ap (map standing_of_stored) (c.deref_mut.ensures.value ∙ c.drop_one.ensures))
    ∙ without_standing c.args.id _ c.self.inside.subscriptions.items)

pub returns-else-not-self-clause-after : goal.returns-else-not-self-clause-after
returns-else-not-self-clause-after g c =
    rw (c.drop_one.ensures, ← c.self.view_is) (without_standing c.args.id _ c.self.inside.subscriptions.items)

pub returns-else-not-self-clause-planned : goal.returns-else-not-self-clause-planned
returns-else-not-self-clause-planned g c =
    rw (c.drop_one.ensures, ← c.self.view_is)
    (without_planned c.args.id c.self.inside.is_planned _ c.self.inside.planned.items c.self.inside.subscriptions.items)
