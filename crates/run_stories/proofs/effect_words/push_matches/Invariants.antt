use Rattle.std.proofs.Common.{◌≡◌, ◌++◌, take}
use Rattle.std.specs.List.{flat_map}
use Rattle.run_stories.specs.Words.{match_line}
use Rattle.run_stories.proofs.effect_words.push_matches.Given as goal

abbrev pub invariant-loop-found : goal.invariant-loop-found
invariant-loop-found g l = l.text.items ≡ l.fn.text.items ++ flat_map (match_line l.now) (take l.found-index l.matched)
