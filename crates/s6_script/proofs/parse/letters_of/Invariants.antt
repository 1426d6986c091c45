use Rattle.std.proofs.Common.{◌≡◌, ◌≤◌, List, map, take, length}
use Rattle.control_letters.specs.ControlLetter.{byte_of}
use Rattle.control_letters.specs.declared.control_letter.ControlLetter.{ControlLetter}
use Rattle.s6_script.proofs.parse.letters_of.Given as goal

abbrev pub invariant-loop-byte : goal.invariant-loop-byte
invariant-loop-byte l = record {
  few : length l.letters.items ≤ 63;
  spelled : (letters : List ControlLetter) → length letters ≤ 63 → l.word ≡ map byte_of letters → l.letters.items ≡ take l.byte-index letters;
}
