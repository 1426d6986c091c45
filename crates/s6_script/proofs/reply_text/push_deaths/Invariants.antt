use Rattle.std.proofs.Common.{◌≡◌, ◌++◌, take}
use Rattle.std.specs.List.{flat_map}
use Rattle.s6_script.specs.ReplyText.{death_text}
use Rattle.s6_script.proofs.reply_text.push_deaths.Given as goal

abbrev pub invariant-loop-death : goal.invariant-loop-death
invariant-loop-death g l = l.text.items ≡ l.fn.text.items ++ flat_map death_text (take l.death-index l.deaths)
