use Rattle.std.proofs.Common.{◌∙◌, map, refl, ap}
use Rattle.event_directory.specs.Parts.{followed_of}
use Rattle.event_directory.specs.Remembered.{with_subscription_at}
use Rattle.event_directory.specs.Sending.{new_kept_subscription}
use Rattle.event_directory.proofs.Changed.{items_by, same_shown}
use Rattle.event_directory.proofs.register.Register.join.Goals as goal

pub returns : goal.returns
returns g c =
    rw (← c.self.view_is)
    (same_shown _ _ refl c.push_reserved.ensures.items
    (ap (map followed_of) (items_by (λ l. l.source) c.self.inside.listened c.take_in_at.new.listened
    (c.take_in_at.ensures.sources ∙ ap (map (λ l. l.source)) c.deref_mut.ensures.value))
    ∙ c.take_in_at.ensures.after
    ∙ ap (λ ls. with_subscription_at c.args.source.now (new_kept_subscription c.self.inside.next (g.F.Finds.source c.args.pattern) c.args.repeats)
    (map followed_of ls)) c.deref_mut.ensures.value)
    refl)
