use Rattle.std.proofs.Common.{◌≡◌, ◌++◌, ◌∷◌, take}
use Rattle.std.specs.List.{flat_map}
use Rattle.s6_script.specs.Options.{entry_text}
use Rattle.s6_script.proofs.entry_options.push_entries.Given as goal

abbrev pub invariant-loop-entry : goal.invariant-loop-entry
invariant-loop-entry g l = l.text.items ≡ l.fn.text.items ++ flat_map (λ e. 32 ∷ entry_text e) (take l.entry-index l.entries)
