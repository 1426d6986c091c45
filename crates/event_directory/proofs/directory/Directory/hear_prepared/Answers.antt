use Rattle.std.proofs.Common.{◌≡◌, map, ap, ◌∙◌, sym}
use Rattle.event_directory.specs.Stored.{greatest_offset, kept_in, prepared_standing, standing_of_stored}
use Rattle.event_directory.proofs.Kept.{forgotten, forgotten_standing, prepared_within, slice_back_prepared}
use Rattle.event_directory.proofs.directory.Directory.hear_prepared.Goals as goal

pub invariant_of-self : goal.invariant_of-self
invariant_of-self g c =
    let same : map standing_of_stored c.commit_all.new.subscriptions ≡ map prepared_standing c.self.inside.subscriptions.items =
    c.commit_all.ensures.standing ∙ ap (map prepared_standing) c.deref_mut.ensures.value in
    rw (
      slice_back_prepared c.commit_all.new.subscriptions c.self.inside.subscriptions.items c.deref_mut.result.now _
          c.deref_mut.ensures.value c.deref_mut.ensures.len c.commit_all.ensures.prepared,
      c.forget-self-inside.ensures.text,
    )
    (forgotten c.self.inside.text.items c.self.inside.planned.items _ c.commit_all.new.subscriptions
    (prepared_within c.commit_all.new.subscriptions c.self.inside.subscriptions.items _ same c.self.invariant.prepared)
    (c.commit_all.ensures.prepared ∙ sym c.commit_all.ensures.standing) c.forget-self-inside.result
    (c.forget-self-inside.ensures.left ∙ ap (λ ss. greatest_offset (map standing_of_stored ss)) (c.deref.ensures.value
    ∙ slice_back_prepared c.commit_all.new.subscriptions c.self.inside.subscriptions.items c.deref_mut.result.now _
    c.deref_mut.ensures.value c.deref_mut.ensures.len c.commit_all.ensures.prepared)))

pub returns-clause-after : goal.returns-clause-after
returns-clause-after g c =
    let same : map standing_of_stored c.commit_all.new.subscriptions ≡ map prepared_standing c.self.inside.subscriptions.items =
    c.commit_all.ensures.standing ∙ ap (map prepared_standing) c.deref_mut.ensures.value in
    rw (
      slice_back_prepared c.commit_all.new.subscriptions c.self.inside.subscriptions.items c.deref_mut.result.now _
          c.deref_mut.ensures.value c.deref_mut.ensures.len c.commit_all.ensures.prepared,
      c.forget-self-inside.ensures.text,
      ← c.self.view_is,
    )
    (forgotten_standing c.self.inside.text.items (map standing_of_stored c.commit_all.new.subscriptions)
    (prepared_within c.commit_all.new.subscriptions c.self.inside.subscriptions.items _ same c.self.invariant.prepared) c.forget-self-inside.result
    (c.forget-self-inside.ensures.left ∙ ap (λ ss. greatest_offset (map standing_of_stored ss)) (c.deref.ensures.value
    ∙ slice_back_prepared c.commit_all.new.subscriptions c.self.inside.subscriptions.items c.deref_mut.result.now _
    c.deref_mut.ensures.value c.deref_mut.ensures.len c.commit_all.ensures.prepared))
    ∙ ap (map (kept_in c.self.inside.text.items)) same)
