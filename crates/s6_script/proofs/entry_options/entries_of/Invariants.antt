use Rattle.std.proofs.Common.{◌≡◌, List, length, map}
use Rattle.std.specs.Prelude.{All}
use Rattle.svscan_core.specs.declared.entry.Entry.{Entry}
use Rattle.s6_script.specs.Options.{entry_text, IsEntry}
use Rattle.s6_script.proofs.Entries.{EntriesSoFar}
use Rattle.s6_script.proofs.entry_options.entries_of.Given as goal

abbrev pub invariant-loop-alloc : goal.invariant-loop-alloc
invariant-loop-alloc g l = record {
  fits : All IsEntry l.entries.items;
  spelled : (entries : List Entry) → All IsEntry entries → l.fn.words ≡ map entry_text entries → EntriesSoFar entries l.entries.items l.words;
}

abbrev pub decreases-loop-alloc : goal.decreases-loop-alloc
decreases-loop-alloc g l = length l.words
