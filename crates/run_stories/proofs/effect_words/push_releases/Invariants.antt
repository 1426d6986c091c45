use Rattle.std.proofs.Common.{◌≡◌, ◌++◌, take}
use Rattle.std.specs.List.{flat_map}
use Rattle.run_stories.specs.Words.{release_line}
use Rattle.run_stories.proofs.effect_words.push_releases.Given as goal

abbrev pub invariant-loop-release : goal.invariant-loop-release
invariant-loop-release g l = l.text.items ≡ l.fn.text.items ++ flat_map (release_line l.now) (take l.release-index l.released)
