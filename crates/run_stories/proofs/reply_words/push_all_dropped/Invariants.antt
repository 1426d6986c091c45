use Rattle.std.proofs.Common.{◌≡◌, ◌++◌, take}
use Rattle.std.specs.List.{flat_map}
use Rattle.run_stories.specs.Requests.{dropped_line}
use Rattle.run_stories.proofs.reply_words.push_all_dropped.Given as goal

abbrev pub invariant-loop-sid : goal.invariant-loop-sid
invariant-loop-sid g l = l.text.items ≡ l.fn.text.items ++ flat_map (dropped_line l.now l.rows) (take l.sid-index l.sids)
