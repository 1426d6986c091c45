use Rattle.std.proofs.Common.{◌≡◌, ◌++◌, take}
use Rattle.std.specs.List.{flat_map}
use Rattle.run_stories.specs.Words.{event_line}
use Rattle.run_stories.proofs.effect_words.push_events.Given as goal

abbrev pub invariant-loop-event : goal.invariant-loop-event
invariant-loop-event g l = l.text.items ≡ l.fn.text.items ++ flat_map (event_line l.now l.rows l.cause) (take l.event-index l.events)
