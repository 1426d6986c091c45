use Rattle.std.proofs.Common.{◌≡◌, ◌++◌, take}
use Rattle.std.specs.List.{flat_map}
use Rattle.s6_script.specs.ReplyText.{dropped_text}
use Rattle.s6_script.proofs.reply_text.push_all_dropped.Given as goal

abbrev pub invariant-loop-sid : goal.invariant-loop-sid
invariant-loop-sid g l = l.text.items ≡ l.fn.text.items ++ flat_map dropped_text (take l.sid-index l.sids)
