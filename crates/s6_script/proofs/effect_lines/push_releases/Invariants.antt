use Rattle.std.proofs.Common.{◌≡◌, ◌++◌, take}
use Rattle.std.specs.List.{flat_map}
use Rattle.s6_script.specs.EffectLines.{release_line}
use Rattle.s6_script.proofs.effect_lines.push_releases.Given as goal

abbrev pub invariant-loop-release : goal.invariant-loop-release
invariant-loop-release g l = l.text.items ≡ l.fn.text.items ++ flat_map release_line (take l.release-index l.released)
