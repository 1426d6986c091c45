-- The bytes before gave their letters, and the first fault is one of the bytes that are left.
use Rattle.std.proofs.Common.{◌≡◌, ◌++◌, length, take, drop, flat_map}
use Rattle.svc_commands.specs.LetterWords.{letters_fault, scan_letters}
use Rattle.svc_commands.proofs.svscanctl.add_run.Given as goal

abbrev pub invariant-loop-byte : goal.invariant-loop-byte
invariant-loop-byte l = record {
  letters : l.letters.items ≡ l.initial.letters.items ++ flat_map scan_letters (take l.byte-index l.run);
  fault : letters_fault scan_letters (length l.initial.letters.items) l.run
      ≡ letters_fault scan_letters (length l.letters.items) (drop l.byte-index l.run);
}
