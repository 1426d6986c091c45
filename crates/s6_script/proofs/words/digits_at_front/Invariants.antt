use Rattle.std.proofs.Common.{◌≡◌, take, true}
use Rattle.std.specs.List.{list_all}
use Rattle.servicedir.specs.Number.{is_digit}
use Rattle.s6_script.proofs.Numbers.{Writes}
use Rattle.s6_script.proofs.words.digits_at_front.Given as goal

abbrev pub invariant-loop-byte : goal.invariant-loop-byte
invariant-loop-byte l = record {
  count : l.count ≡ l.byte-index;
  digits : list_all is_digit (take l.byte-index l.text) ≡ true;
  read : Writes (take l.byte-index l.text) l.value;
}
