use Rattle.tree_core.specs.Effect.{outcome_of}
use Rattle.run_stories.proofs.Steps.{made}
use Rattle.run_stories.proofs.story.make_story.Goals as goal

pub returns-clause-story : goal.returns-clause-story
returns-clause-story g c m stands =
    made _ _ _ _ _ _ _ _ _ _ _ _ (outcome_of c.args.effect.now) _ _ _ (c.now-now.ensures.clock m stands) c.as_slice.ensures.value
    c.as_slice-2.ensures.value (c.follow_scan.ensures m stands) c.as_slice-3.ensures.value c.clear.ensures.items
    c.in_ok-push_reply_lines.ensures c.in_ok-push_effect.ensures
