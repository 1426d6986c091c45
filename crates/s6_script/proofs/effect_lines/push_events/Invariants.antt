use Rattle.std.proofs.Common.{◌≡◌, ◌++◌, take}
use Rattle.std.specs.List.{flat_map}
use Rattle.s6_script.specs.EffectLines.{event_line}
use Rattle.s6_script.proofs.effect_lines.push_events.Given as goal

abbrev pub invariant-loop-event : goal.invariant-loop-event
invariant-loop-event g l = l.text.items ≡ l.fn.text.items ++ flat_map event_line (take l.event-index l.events)
