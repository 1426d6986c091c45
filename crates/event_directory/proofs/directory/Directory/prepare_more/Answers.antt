use Rattle.std.proofs.Common.{◌≤◌, ◌∷◌, [], length, map, ap, subst, sym, ◌∙◌}
use Rattle.std.specs.List.{list_any}
use Rattle.event_directory.specs.SubscriberList.{is_live}
use Rattle.event_directory.specs.Stored.{greatest_offset, planned_standing, prepared_standing, standing_of_stored}
use Rattle.event_directory.proofs.OneText.{hits-deaf, readers-deaf}
use Rattle.event_directory.proofs.Kept.{given_next, grown, heard_still, prepared_next, same_planned, slice_back, wider}
use Rattle.event_directory.proofs.directory.Directory.prepare_more.Goals as goal

pub returns-then-not-any_listens-clause-hits : goal.returns-then-not-any_listens-clause-hits
returns-then-not-any_listens-clause-hits g c =
    rw (c.new.ensures.items, ← c.self.view_is)
    (hits-deaf g.F.Finds.test c.args.letter c.self.inside.text.items c.self.inside.subscriptions.items
    (sym (c.any_listens.ensures ∙ ap (list_any (λ s. is_live s.prepared.state)) c.deref.ensures.value) ∙ c.if-not-any_listens.true))

pub returns-then-not-any_listens-clause-prepared :
    goal.returns-then-not-any_listens-clause-prepared
returns-then-not-any_listens-clause-prepared g c =
    rw (← c.self.view_is)
    (readers-deaf g.F.Finds.test c.args.letter c.self.inside.text.items c.self.inside.subscriptions.items
    (sym (c.any_listens.ensures ∙ ap (list_any (λ s. is_live s.prepared.state)) c.deref.ensures.value) ∙ c.if-not-any_listens.true))

pub invariant_of-self : goal.invariant_of-self
invariant_of-self g c =
    rw c.in_err-push.ensures.items
    (wider c.self.inside.text.items c.self.inside.heard c.self.inside.is_planned c.self.inside.planned.items _ _
    c.self.inside.subscriptions.items c.self.invariant c.push.ensures.capacity)

pub invariant_of-self-in_err-hits : goal.invariant_of-self-in_err-hits
invariant_of-self-in_err-hits g c =
    rw (
      slice_back c.prepare_all.new.subscriptions c.self.inside.subscriptions.items c.deref_mut.result.now _
          c.deref_mut.ensures.value c.deref_mut.ensures.len c.prepare_all.ensures.same,
      c.in_ok-push.ensures.items,
    )
    (grown c.self.inside.text.items (c.args.letter ∷ []) c.self.inside.heard c.self.inside.is_planned c.self.inside.planned.items _ _
    c.prepare_all.new.subscriptions c.self.inside.subscriptions.items c.self.invariant c.push.ensures.capacity
    (c.prepare_all.ensures.same ∙ ap (map standing_of_stored) c.deref_mut.ensures.value)
    (c.prepare_all.ensures.planned ∙ ap (map planned_standing) c.deref_mut.ensures.value)
    (subst (λ t. greatest_offset (map prepared_standing c.prepare_all.new.subscriptions) ≤ length t)
    (c.deref-2.ensures.value ∙ c.in_ok-push.ensures.items) c.prepare_all.ensures.within))

pub returns-in_err-hits-clause-planned : goal.returns-in_err-hits-clause-planned
returns-in_err-hits-clause-planned g c =
    rw (
      slice_back c.prepare_all.new.subscriptions c.self.inside.subscriptions.items c.deref_mut.result.now _
          c.deref_mut.ensures.value c.deref_mut.ensures.len c.prepare_all.ensures.same,
      c.in_ok-push.ensures.items,
      ← c.self.view_is,
    )
    (same_planned c.self.inside.is_planned _ _ c.self.inside.planned.items c.prepare_all.new.subscriptions c.self.inside.subscriptions.items
    (heard_still c.self.inside.heard c.self.inside.text.items (c.args.letter ∷ []) c.self.invariant.there)
    (c.prepare_all.ensures.same ∙ ap (map standing_of_stored) c.deref_mut.ensures.value)
    (c.prepare_all.ensures.planned ∙ ap (map planned_standing) c.deref_mut.ensures.value))

pub invariant_of-self-2 : goal.invariant_of-self-2
invariant_of-self-2 g c =
    rw (
      slice_back c.prepare_all.new.subscriptions c.self.inside.subscriptions.items c.deref_mut.result.now _
          c.deref_mut.ensures.value c.deref_mut.ensures.len c.prepare_all.ensures.same,
      c.in_ok-push.ensures.items,
    )
    (grown c.self.inside.text.items (c.args.letter ∷ []) c.self.inside.heard c.self.inside.is_planned c.self.inside.planned.items _ _
    c.prepare_all.new.subscriptions c.self.inside.subscriptions.items c.self.invariant c.push.ensures.capacity
    (c.prepare_all.ensures.same ∙ ap (map standing_of_stored) c.deref_mut.ensures.value)
    (c.prepare_all.ensures.planned ∙ ap (map planned_standing) c.deref_mut.ensures.value)
    (subst (λ t. greatest_offset (map prepared_standing c.prepare_all.new.subscriptions) ≤ length t)
    (c.deref-2.ensures.value ∙ c.in_ok-push.ensures.items) c.prepare_all.ensures.within))

pub returns-clause-hits : goal.returns-clause-hits
returns-clause-hits g c =
    rw (← c.self.view_is)
    (given_next g.F.Finds.test c.args.letter c.self.inside.text.items c.push.new.self.items c.deref-2.result.now
    c.self.inside.subscriptions.items c.deref_mut.result.now c.in_ok-push.ensures.items c.deref-2.ensures.value c.deref_mut.ensures.value
    c.self.invariant.prepared _ c.in_ok-hits.ensures.hits)

pub returns-clause-prepared : goal.returns-clause-prepared
returns-clause-prepared g c =
    rw (
      slice_back c.prepare_all.new.subscriptions c.self.inside.subscriptions.items c.deref_mut.result.now _
          c.deref_mut.ensures.value c.deref_mut.ensures.len c.prepare_all.ensures.same,
      ← c.self.view_is,
    )
    (prepared_next g.F.Finds.test c.args.letter c.self.inside.text.items c.push.new.self.items c.deref-2.result.now
    c.self.inside.subscriptions.items c.deref_mut.result.now c.in_ok-push.ensures.items c.deref-2.ensures.value c.deref_mut.ensures.value
    c.self.invariant.prepared c.prepare_all.new.subscriptions
    c.in_ok-hits.ensures.next)

pub returns-clause-planned : goal.returns-clause-planned
returns-clause-planned g c =
    rw (
      slice_back c.prepare_all.new.subscriptions c.self.inside.subscriptions.items c.deref_mut.result.now _
          c.deref_mut.ensures.value c.deref_mut.ensures.len c.prepare_all.ensures.same,
      c.in_ok-push.ensures.items,
      ← c.self.view_is,
    )
    (same_planned c.self.inside.is_planned _ _ c.self.inside.planned.items c.prepare_all.new.subscriptions c.self.inside.subscriptions.items
    (heard_still c.self.inside.heard c.self.inside.text.items (c.args.letter ∷ []) c.self.invariant.there)
    (c.prepare_all.ensures.same ∙ ap (map standing_of_stored) c.deref_mut.ensures.value)
    (c.prepare_all.ensures.planned ∙ ap (map planned_standing) c.deref_mut.ensures.value))
