use Rattle.std.proofs.Common.{take}
use Rattle.s6_script.proofs.Numbers.{Writes}
use Rattle.s6_script.proofs.words.number.Given as goal

abbrev pub invariant-loop-byte : goal.invariant-loop-byte
invariant-loop-byte l = record { read : Writes (take l.byte-index l.word) l.value }
