-- The words before gave the letters, and the first fault is one of the words that are left.
use Rattle.std.proofs.Common.{◌≡◌, true, length, map, take, drop}
use Rattle.svc_commands.specs.LetterWords.{letters_in, no_name, scan_letters, words_fault}
use Rattle.svc_commands.proofs.svscanctl.compile_svscanctl.Given as goal

abbrev pub invariant-loop-word : goal.invariant-loop-word
invariant-loop-word l = record {
  letters : letters_in scan_letters (take l.word-index (map (λ w. w.now) l.words)) ≡ l.letters.items;
  fault : words_fault scan_letters no_name 0 true (map (λ w. w.now) l.words)
      ≡ words_fault scan_letters no_name (length l.letters.items) true (drop l.word-index (map (λ w. w.now) l.words));
}
