-- The numbers of the faults of a replay.
use Rattle.std.specs.Prelude.{ℕ}
use Rattle.s6_replay.specs.declared.fault.ReplayFault.{ReplayFault}
use Rattle.s6_replay.specs.declared.fault.ReplayFault.TheVariants.{Head, Line, Pattern, Truncated, Read, Write}
use Rattle.s6_replay.specs.declared.fault.ReplayFault.TheVariants.{NoMemory}

-- the number of a fault
abbrev pub number_of : ReplayFault → ℕ
number_of Head = 1
number_of (Line n) = 2
number_of (Pattern n) = 3
number_of Truncated = 4
number_of Read = 5
number_of Write = 6
number_of NoMemory = 7
