use Rattle.std.proofs.Common.{◌≡◌, ◌++◌, take}
use Rattle.std.specs.List.{flat_map}
use Rattle.s6_script.specs.ReplyText.{listed_text}
use Rattle.s6_script.proofs.reply_text.push_all_listed.Given as goal

abbrev pub invariant-loop-listed : goal.invariant-loop-listed
invariant-loop-listed g l = l.text.items ≡ l.fn.text.items ++ flat_map listed_text (take l.listed-index l.all)
