use Rattle.tree_core.specs.Effect.{outcome_of}
use Rattle.run_stories.proofs.Steps.{tells}
use Rattle.run_stories.proofs.story.tell_step.Goals as goal

pub returns-in-Ok-make_story-clause-told : goal.returns-in-Ok-make_story-clause-told
returns-in-Ok-make_story-clause-told g c m stands =
    tells _ _ _ _ _ m (outcome_of c.apply_in_place.new.effect) _ _ _ _ (c.in-Ok-apply_in_place.ensures.step m stands) c.is_told-told.ensures
    c.head_of-head.ensures c.in-Ok.ensures c.cause_of-cause.ensures c.in-Ok-make_story.ensures.story c.in-Ok-make_story.ensures.named
