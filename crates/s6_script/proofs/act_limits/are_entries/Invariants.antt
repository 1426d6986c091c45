use Rattle.std.proofs.Common.{All, take}
use Rattle.s6_script.specs.Options.{IsEntry}
use Rattle.s6_script.proofs.act_limits.are_entries.Given as goal

abbrev pub invariant-loop-entry : goal.invariant-loop-entry
invariant-loop-entry l = All IsEntry (take l.entry-index l.entries)
