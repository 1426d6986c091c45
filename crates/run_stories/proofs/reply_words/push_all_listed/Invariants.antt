use Rattle.std.proofs.Common.{◌≡◌, ◌++◌, take}
use Rattle.std.specs.List.{flat_map}
use Rattle.run_stories.specs.Requests.{listed_line}
use Rattle.run_stories.proofs.reply_words.push_all_listed.Given as goal

abbrev pub invariant-loop-listed : goal.invariant-loop-listed
invariant-loop-listed g l = l.text.items ≡ l.fn.text.items ++ flat_map (listed_line l.now) (take l.listed-index l.all)
