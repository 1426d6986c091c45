-- The line and the exit status of a fault of replay.
use Rattle.std.specs.Prelude.{ℕ, List, [], ◌∷◌, ◌++◌, codes, decimal}
use Rattle.s6_replay.specs.declared.fault.ReplayFault.{ReplayFault}
use Rattle.s6_replay.specs.declared.fault.ReplayFault.TheVariants.{Head, Line, Pattern, Truncated, Read, Write}
use Rattle.s6_replay.specs.declared.fault.ReplayFault.TheVariants.{NoMemory}

-- the exit status: 100 where the input is no script, 111 where the system refused something
abbrev pub status_of : ReplayFault → ℕ
status_of Head = 100
status_of (Line number) = 100
status_of (Pattern number) = 100
status_of Truncated = 100
status_of Read = 111
status_of Write = 111
status_of NoMemory = 111

-- the line on standard error
abbrev pub fault_line : ReplayFault → List ℕ
fault_line Head = codes "replay: no head line\n"
fault_line (Line number) = codes "replay: line " ++ (decimal number ++ (10 ∷ []))
fault_line (Pattern number) = codes "replay: pattern in line " ++ (decimal number ++ (10 ∷ []))
fault_line Truncated = codes "replay: truncated\n"
fault_line Read = codes "replay: read\n"
fault_line Write = codes "replay: write\n"
fault_line NoMemory = codes "replay: no memory\n"
