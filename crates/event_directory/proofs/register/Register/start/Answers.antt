use Rattle.std.proofs.Common.{◌∙◌, ◌++◌, ◌∷◌, [], map, refl, sym, ap, subst}
use Rattle.event_directory.specs.Parts.{AreDistinct, IsAbsent, followed_of}
use Rattle.event_directory.specs.Sending.{new_kept_subscription}
use Rattle.event_directory.proofs.Places.{distinct_pushed, sources_of}
use Rattle.event_directory.proofs.Changed.{joined_last, sources_roomed, same_shown}
use Rattle.event_directory.proofs.register.Register.start.Given.{Over}
use Rattle.event_directory.proofs.register.Register.start.Goals as goal

absent : (g : Over) (c : goal.After-self-1 g) → IsAbsent c.args.directory.source (sources_of c.self.inside.listened.items)
absent g c = subst (IsAbsent c.args.directory.source) (sources_roomed c.self.inside.listened.items) (rw (← c.self.view_is) at c.requires.absent)

pub invariant_of-self : goal.invariant_of-self
invariant_of-self g c =
    subst (λ ls. AreDistinct (sources_of ls)) (sym c.push_reserved-2.ensures.items)
    (distinct_pushed c.self.inside.listened.items c.take_in.new.self c.self.invariant
    (subst (λ s. IsAbsent s (sources_of c.self.inside.listened.items)) (sym c.take_in.ensures.source) (absent g c)))

pub returns : goal.returns
returns g c =
    rw (← c.self.view_is)
    (same_shown _ _ refl
    (c.push_reserved.ensures.items ∙ ap (λ s. c.self.inside.subscribers.items ++ (c.self.inside.next, s) ∷ []) c.source.ensures)
    (ap (map followed_of) c.push_reserved-2.ensures.items
    ∙ joined_last c.args.directory.source (new_kept_subscription c.self.inside.next (g.F.Finds.source c.args.pattern) c.args.repeats)
    c.self.inside.listened.items c.take_in.new.self (absent g c)
    c.take_in.ensures.source (c.take_in.ensures.after
    ∙ ap (λ l. l ++ new_kept_subscription c.self.inside.next (g.F.Finds.source c.args.pattern) c.args.repeats ∷ []) c.requires.empty))
    refl)
