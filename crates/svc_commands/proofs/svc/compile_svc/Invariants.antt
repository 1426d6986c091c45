-- The words before gave the letters and the name, and the first fault is one of the words that are left.
use Rattle.std.proofs.Common.{◌≡◌, false, length, map, take, drop, is_some, option_to_list}
use Rattle.svc_commands.specs.LetterWords.{letters_in, names_in, name_fault, svc_letters, words_fault}
use Rattle.svc_commands.proofs.svc.compile_svc.Given as goal

abbrev pub invariant-loop-word : goal.invariant-loop-word
invariant-loop-word l = record {
  letters : letters_in svc_letters (take l.word-index (map (λ w. w.now) l.words)) ≡ l.letters.items;
  name : names_in (take l.word-index (map (λ w. w.now) l.words)) ≡ option_to_list l.name;
  fault : words_fault svc_letters name_fault 0 false (map (λ w. w.now) l.words)
      ≡ words_fault svc_letters name_fault (length l.letters.items) (is_some l.name) (drop l.word-index (map (λ w. w.now) l.words));
}
