use Rattle.std.proofs.Common.{◌≡◌, ◌++◌, map, take}
use Rattle.s6_script.specs.Options.{option_word, behind_name}
use Rattle.s6_script.proofs.Entries.{mark_behind}
use Rattle.s6_script.proofs.entry_options.push_options.Given as goal

abbrev pub invariant-loop-setting : goal.invariant-loop-setting
invariant-loop-setting g l = record {
  text : l.text.items ≡ l.fn.text.items ++ behind_name (map option_word (take l.setting-index l.settings));
  mark : l.mark ≡ mark_behind (map option_word (take l.setting-index l.settings));
}
