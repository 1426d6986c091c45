use Rattle.std.proofs.Common.{◌≡◌, ◌++◌, take}
use Rattle.std.specs.List.{flat_map}
use Rattle.s6_script.specs.EffectLines.{match_line}
use Rattle.s6_script.proofs.effect_lines.push_matches.Given as goal

abbrev pub invariant-loop-found : goal.invariant-loop-found
invariant-loop-found g l = l.text.items ≡ l.fn.text.items ++ flat_map match_line (take l.found-index l.matched)
